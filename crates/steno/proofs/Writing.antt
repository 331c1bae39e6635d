-- Writing texts one after the other, those that lie together at once.
use Rattle.std.proofs.Common.{◌≡◌, ℕ, ◌+◌, ◌<◌, ◌≤◌, List, [], ◌∷◌, ◌++◌, length, take, drop, get_or, sym, ap, subst, ◌∙◌, Option, Result, Ok, Err, append-nil, append_assoc, arith}
use Rattle.std.specs.List.{flat_map}
use Rattle.std.specs.Io.KnownBytes.{Appends}
use Rattle.std.proofs.KnownBytes.{Appends-trans}
use Rattle.std.proofs.lemmas.List.{take_more, take-append-drop}
use Rattle.std.proofs.lemmas.Grind.{flat_map-append}
use Rattle.st_base.specs.Pieces.{AppendsPrefix, Puts}
use Rattle.st_base.proofs.Putting.{prefix-more, prefix-then}
use Rattle.steno.specs.declared.packets.Packet.{Packet}
use Rattle.steno.specs.Packets.{stretch, end_of, text_of}
use Rattle.steno.proofs.Buffers.{stretch-join}

-- the text of one more
pub text-more : {X : Type 0} (f : X → List ℕ) (xs : List X) (i : ℕ) (x : X) → i < length xs → x ≡ get_or xs i x
    → flat_map f (take (i + 1) xs) ≡ flat_map f (take i xs) ++ f x
text-more f xs i x below is =
    ap (flat_map f) (take_more xs i x below) ∙ (flat_map-append f (take i xs) (get_or xs i x ∷ [])
    ∙ ap (λ t. flat_map f (take i xs) ++ t) (append-nil (f (get_or xs i x)) ∙ ap f (sym is)))

-- These bytes were put, and with this stretch of the buffer, which is still to be put, they are the
-- texts of these packets.
pub record Owes (old new : Option (List ℕ)) (text : List ℕ) (from to : ℕ) (ps : List Packet) : Type 0 where
  pub done : List ℕ
  pub put : Appends old new done
  pub texts : done ++ stretch text from to ≡ flat_map (text_of text) ps

-- the next packet's text follows the stretch
pub owes-longer : (old new : Option (List ℕ)) (text : List ℕ) (from to : ℕ) (ps : List Packet) (i : ℕ) (p : Packet) → i < length ps → p ≡ get_or ps i p
    → from ≤ to → p.start ≡ to → Owes old new text from to (take i ps) → Owes old new text from (end_of p) (take (i + 1) ps)
owes-longer old new text from to ps i p below is low here h = record {
  done = h.done;
  put = h.put;
  texts =
      ap (λ s. h.done ++ s) (sym (stretch-join text from to (end_of p) low (subst (λ n. n ≤ end_of p) here (longer p))))
      ∙ (sym (append_assoc h.done (stretch text from to) (stretch text to (end_of p)))
      ∙ (ap (λ s. s ++ stretch text to (end_of p)) h.texts
      ∙ (ap (λ n. flat_map (text_of text) (take i ps) ++ stretch text n (end_of p)) (sym here) ∙ sym (text-more (text_of text) ps i p below is))));
} where
  longer : (p : Packet) → p.start ≤ end_of p
  longer p = omega arith

-- the stretch was put, and the next packet's text is to be put
pub owes-next : (old mid new : Option (List ℕ)) (text : List ℕ) (from to : ℕ) (ps : List Packet) (i : ℕ) (p : Packet) → i < length ps → p ≡ get_or ps i p
    → Owes old mid text from to (take i ps) → Appends mid new (stretch text from to) → Owes old new text p.start (end_of p) (take (i + 1) ps)
owes-next old mid new text from to ps i p below is h put = record {
  done = h.done ++ stretch text from to;
  put = Appends-trans old mid new h.done (stretch text from to) h.put put;
  texts = ap (λ s. s ++ text_of text p) h.texts ∙ sym (text-more (text_of text) ps i p below is);
}

-- the stretch was put, or a prefix of it
pub puts-then : {T E : Type 0} (a b c : Option (List ℕ)) (xs ys : List ℕ) (r : Result T E) → Appends a b xs → Puts b c ys r → Puts a c (xs ++ ys) r
puts-then a b c xs ys (Ok done) first next = Appends-trans a b c xs ys first next
puts-then a b c xs ys (Err e) first next = prefix-then a b c xs ys first next

pub owes-none : {T E : Type 0} (old mid new : Option (List ℕ)) (text : List ℕ) (from to : ℕ) (ps : List Packet) (r : Result T E)
    → Owes old mid text from to ps → Puts mid new (stretch text from to) r → Puts old new (flat_map (text_of text) ps) r
owes-none old mid new text from to ps r h put =
    subst (λ l. Puts old new l r) h.texts (puts-then old mid new h.done (stretch text from to) r h.put put)

-- a prefix of the stretch was put before the packets from the i-th on
pub owes-rest : (old mid new : Option (List ℕ)) (text : List ℕ) (from to : ℕ) (ps : List Packet) (i : ℕ)
    → Owes old mid text from to (take i ps) → AppendsPrefix mid new (stretch text from to) → AppendsPrefix old new (flat_map (text_of text) ps)
owes-rest old mid new text from to ps i h put =
    let all : flat_map (text_of text) (take i ps) ++ flat_map (text_of text) (drop i ps) ≡ flat_map (text_of text) ps =
    sym (flat_map-append (text_of text) (take i ps) (drop i ps)) ∙ ap (flat_map (text_of text)) (take-append-drop i ps) in
    subst (AppendsPrefix old new) all
    (prefix-more old new (flat_map (text_of text) (take i ps)) (flat_map (text_of text) (drop i ps))
    (subst (AppendsPrefix old new) h.texts (prefix-then old mid new h.done (stretch text from to) h.put put)))
