-- The pieces of a pcap text, joined.
use Rattle.std.proofs.Common.{◌≡◌, ℕ, List, [], ◌∷◌, ◌++◌, refl, sym, ap, ◌∙◌, append_assoc, append-nil}
use Rattle.std.specs.List.{flat_map, concat}
use Rattle.st_base.specs.Records.{Rec}
use Rattle.st_pcap.specs.declared.forms.Unit as unit
use Rattle.st_pcap.specs.Text.{PcapText, Pieces, body_piece, file_head, record_head, record_pieces, record_text}

concat-append : (xss yss : List (List ℕ)) → concat (xss ++ yss) ≡ concat xss ++ concat yss
concat-append [] yss = refl
concat-append (xs ∷ xss) yss = ap (λ l. xs ++ l) (concat-append xss yss) ∙ sym (append_assoc xs (concat xss) (concat yss))

concat-body_piece : (body : List ℕ) → concat (body_piece body) ≡ body
concat-body_piece [] = refl
concat-body_piece (x ∷ xs) = append-nil (x ∷ xs)

records_text : (u : unit.Unit) (rs : List Rec) → concat (flat_map (record_pieces u) rs) ≡ flat_map (record_text u) rs
records_text u [] = refl
records_text u (r ∷ rs) =
    concat-append (record_pieces u r) (flat_map (record_pieces u) rs)
    ∙ ap (λ l. (record_head u r ++ l) ++ concat (flat_map (record_pieces u) rs)) (concat-body_piece r.body)
    ∙ ap (λ l. (record_head u r ++ r.body) ++ l) (records_text u rs)

pub pieces_text : (u : unit.Unit) (rs : List Rec) → concat (Pieces rs u) ≡ PcapText rs u
pieces_text u rs = ap (λ l. file_head u ++ l) (records_text u rs)
