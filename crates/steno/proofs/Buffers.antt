-- Texts of packets in one buffer.
use Rattle.std.proofs.Common.{◌≡◌, ℕ, ◌+◌, ◌-◌, ◌≤◌, List, [], ◌∷◌, ◌++◌, length, take, drop, map, refl, sym, ap, subst, ◌∙◌, arith, length-append, append_assoc}
use Rattle.std.specs.List.{sum_by, flat_map}
use Rattle.std.proofs.lemmas.List.{take-append-le, drop-append-le, length-drop, length-take, take_all, drop-drop, map-append}
use Rattle.std.proofs.lemmas.List.Elements.{All-head, All-tail, All-push, All-weaker}
use Rattle.std.proofs.lemmas.List.Sums.{sum_by-cons}
use Rattle.std.proofs.Math.Seq.{drop-append_seam, take-add}
use Rattle.st_base.specs.Records.{Rec}
use Rattle.st_pcap.specs.declared.forms.Unit as unit
use Rattle.st_pcap.specs.declared.numbers.TheConstants.{RECORD_HEAD_SIZE}
use Rattle.st_pcap.specs.Text.{record_head, record_text}
use Rattle.st_pcap.proofs.Writing.{length-record_head, length-record_text}
use Rattle.steno.specs.declared.packets.Packet.{Packet}
use Rattle.st_answer.specs.Limited.{captured}
use Rattle.steno.specs.Packets.{stretch, end_of, text_of, record_of, Lies, AllLie, AllWithin}

-- a stretch, cut in two
pub stretch-join : (text : List ℕ) (from mid to : ℕ) → from ≤ mid → mid ≤ to → stretch text from mid ++ stretch text mid to ≡ stretch text from to
stretch-join text from mid to low high =
    let there : drop (mid - from) (drop from text) ≡ drop mid text = drop-drop (mid - from) from text ∙ ap (λ n. drop n text) (omega arith) in
    let long : (mid - from) + (to - mid) ≡ to - from = omega arith in
    sym (sym (ap (λ n. take n (drop from text)) long) ∙ take-add (mid - from) (to - mid) (drop from text) ∙ ap (λ l. stretch text from mid ++ take (to - mid) l) there)

-- what follows a buffer is no part of its stretches
pub stretch-append : (text more : List ℕ) (from to : ℕ) → from ≤ to → to ≤ length text → stretch (text ++ more) from to ≡ stretch text from to
stretch-append text more from to low within =
    ap (take (to - from)) (drop-append-le from text more (omega arith))
    ∙ take-append-le (to - from) (drop from text) more (omega (arith, length-drop from text))

-- what follows a buffer is the stretch from its end on
pub stretch-new : (text xs : List ℕ) (to : ℕ) → to ≡ length text + length xs → stretch (text ++ xs) (length text) to ≡ xs
stretch-new text xs to is =
    ap (take (to - length text)) (drop-append_seam text xs) ∙ take_all (to - length text) xs (omega (arith, is))

pub record-append : (text more : List ℕ) (p : Packet) → end_of p ≤ length text → record_of (text ++ more) p ≡ record_of text p
record-append text more p within =
    ap (λ b. record { sec = p.sec; nsec = p.nsec; orig = p.orig; body = b }) (stretch-append text more (p.start + RECORD_HEAD_SIZE) (end_of p) (omega arith) within)

pub lies-append : (u : unit.Unit) (text more : List ℕ) (p : Packet) → Lies u text p → Lies u (text ++ more) p
lies-append u text more p h = record {
  within = omega (arith, h.within, length-append text more);
  is = stretch-append text more p.start (end_of p) (omega arith) h.within ∙ (h.is ∙ ap (record_text u) (sym (record-append text more p h.within)));
}

-- all that lie in a buffer lie in a longer one, and stand for the same records
pub all-append : (u : unit.Unit) (text more : List ℕ) (ps : List Packet) → AllLie u text ps → AllLie u (text ++ more) ps
all-append u text more ps h = All-weaker (Lies u text) (Lies u (text ++ more)) (lies-append u text more) ps h

pub records-append : (u : unit.Unit) (text more : List ℕ) (ps : List Packet) → AllLie u text ps → map (record_of (text ++ more)) ps ≡ map (record_of text) ps
records-append u text more [] h = refl
records-append u text more (p ∷ ps) h =
    ap (λ r. r ∷ map (record_of (text ++ more)) ps) (record-append text more p (All-head (Lies u text) p ps h).within)
    ∙ ap (λ rs. record_of text p ∷ rs) (records-append u text more ps (All-tail (Lies u text) p ps h))

-- the packet of a record whose text begins at this offset
abbrev pub packet_at : ℕ → Rec → Packet
packet_at start r = record { sec = r.sec; nsec = r.nsec; orig = r.orig; len = length r.body; start = start }

pub record-new : (u : unit.Unit) (text : List ℕ) (r : Rec) → record_of (text ++ record_text u r) (packet_at (length text) r) ≡ r
record-new u text r =
    let front = text ++ record_head u r in
    let start : length front ≡ length text + RECORD_HEAD_SIZE = length-append text (record_head u r) ∙ ap (λ n. length text + n) (length-record_head u r) in
    let there : stretch (front ++ r.body) (length front) (length text + RECORD_HEAD_SIZE + length r.body) ≡ r.body =
    stretch-new front r.body (length text + RECORD_HEAD_SIZE + length r.body) (omega (arith, start)) in
    let body : stretch (text ++ record_text u r) (length text + RECORD_HEAD_SIZE) (length text + RECORD_HEAD_SIZE + length r.body) ≡ r.body =
    subst (λ n. stretch (text ++ record_text u r) n (length text + RECORD_HEAD_SIZE + length r.body) ≡ r.body) start
    (subst (λ t. stretch t (length front) (length text + RECORD_HEAD_SIZE + length r.body) ≡ r.body) (append_assoc text (record_head u r) r.body) there) in
    ap (λ b. record { sec = r.sec; nsec = r.nsec; orig = r.orig; body = b }) body

pub lies-new : (u : unit.Unit) (text : List ℕ) (r : Rec) → Lies u (text ++ record_text u r) (packet_at (length text) r)
lies-new u text r =
    let long = length-record_text u r in
    record {
      within = omega (arith, length-append text (record_text u r), long);
      is = stretch-new text (record_text u r) (length text + RECORD_HEAD_SIZE + length r.body) (omega (arith, long)) ∙ ap (record_text u) (sym (record-new u text r));
    }

-- a record's text follows a buffer, and its packet the others
pub all-new : (u : unit.Unit) (text : List ℕ) (ps : List Packet) (r : Rec) → AllLie u text ps → AllLie u (text ++ record_text u r) (ps ++ packet_at (length text) r ∷ [])
all-new u text ps r h = All-push (Lies u (text ++ record_text u r)) ps (packet_at (length text) r) (all-append u text (record_text u r) ps h) (lies-new u text r)

pub records-new : (u : unit.Unit) (text : List ℕ) (ps : List Packet) (r : Rec) → AllLie u text ps
    → map (record_of (text ++ record_text u r)) (ps ++ packet_at (length text) r ∷ []) ≡ map (record_of text) ps ++ r ∷ []
records-new u text ps r h =
    let t = text ++ record_text u r in
    map-append (record_of t) ps (packet_at (length text) r ∷ [])
    ∙ (ap (λ l. l ++ record_of t (packet_at (length text) r) ∷ []) (records-append u text (record_text u r) ps h)
    ∙ ap (λ x. map (record_of text) ps ++ x ∷ []) (record-new u text r))

-- texts that lie in a buffer end in it
pub all-within : (u : unit.Unit) (text : List ℕ) (ps : List Packet) → AllLie u text ps → AllWithin text ps
all-within u text ps h = All-weaker (Lies u text) (λ (p : Packet). end_of p ≤ length text) (λ p l. l.within) ps h

-- the texts of packets are those of their records
pub texts-are : (u : unit.Unit) (text : List ℕ) (ps : List Packet) → AllLie u text ps → flat_map (text_of text) ps ≡ flat_map (record_text u) (map (record_of text) ps)
texts-are u text [] h = refl
texts-are u text (p ∷ ps) h =
    ap (λ l. l ++ flat_map (text_of text) ps) (All-head (Lies u text) p ps h).is
    ∙ ap (λ l. record_text u (record_of text p) ++ l) (texts-are u text ps (All-tail (Lies u text) p ps h))

-- a packet captured as many bytes as its record has
pub length-body : (u : unit.Unit) (text : List ℕ) (p : Packet) → Lies u text p → length (record_of text p).body ≡ p.len
length-body u text p h =
    let from = p.start + RECORD_HEAD_SIZE in
    omega (arith, length-take (end_of p - from) (drop from text), length-drop from text, h.within)

pub captured-lens : (u : unit.Unit) (text : List ℕ) (ps : List Packet) → AllLie u text ps → captured (map (record_of text) ps) ≡ sum_by (λ (p : Packet). p.len) ps
captured-lens u text [] h = refl
captured-lens u text (p ∷ ps) h =
    let rs = map (record_of text) ps in
    let len = length-body u text p (All-head (Lies u text) p ps h) in
    let rest = captured-lens u text ps (All-tail (Lies u text) p ps h) in
    omega (arith, sum_by-cons (λ (r : Rec). length r.body) (record_of text p) rs, sum_by-cons (λ (x : Packet). x.len) p ps, len, rest)

-- a record's text was put after a buffer, and its packet after the others
pub appended : (u : unit.Unit) (r : Rec) (text : List ℕ) (ps : List Packet) (text' : List ℕ) (ps' : List Packet) (p : Packet)
    → text' ≡ text ++ record_text u r → ps' ≡ ps ++ p ∷ [] → p ≡ packet_at (length text) r
    → AllLie u text ps → AllLie u text' ps' × (map (record_of text') ps' ≡ map (record_of text) ps ++ r ∷ [])
appended u r text ps text' ps' p put pushed is lie =
    let new = ps ++ packet_at (length text) r ∷ [] in
    let order : new ≡ ps' = sym (pushed ∙ ap (λ x. ps ++ x ∷ []) is) in
    subst (λ t. AllLie u t ps' × (map (record_of t) ps' ≡ map (record_of text) ps ++ r ∷ [])) (sym put)
    (subst (λ xs. AllLie u (text ++ record_text u r) xs × (map (record_of (text ++ record_text u r)) xs ≡ map (record_of text) ps ++ r ∷ [])) order
    (all-new u text ps r lie, records-new u text ps r lie))
