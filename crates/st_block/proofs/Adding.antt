-- What writing a record after the others leaves, and what writing the head of the block.
use Rattle.std.proofs.Common.{◌≡◌, ℕ, ◌+◌, ◌-◌, ◌≤◌, true, false, cond, List, [], ◌∷◌, ◌++◌, length, length-append, take, drop, refl, sym, ap, ◌∙◌, arith, append_assoc, append-nil}
use Rattle.std.specs.Prelude.{replicate, nat_eq, if◌then◌else◌}
use Rattle.std.proofs.lemmas.Bool.{eq-eqb, ne_eqb}
use Rattle.std.proofs.lemmas.List.{drop_at, take_at, drop-drop, length-replicate, length_push, replicate-append-replicate}
use Rattle.byteorder.specs.Endian.{little_bytes}
use Rattle.st_base.specs.Records.{Rec, time}
use Rattle.st_block.specs.Fields.{text}
use Rattle.st_block.specs.BlockText.{padded_len, room, used_bytes, record_head, record_fields, records_fields, last_of, block_head, head_of_block, block_text}
use Rattle.st_block.specs.Builder.{BlockBuilderView, HasEnds, HoldsRecords, with_part, with_distance, with_record}
use Rattle.st_block.proofs.Texts.{text-append, length-text}
use Rattle.st_block.proofs.Rooms.{used_push}
use Rattle.st_block.proofs.Standing.{size_head, length_record, length_records, record_split, block_split}

-- a part in the place of one as long
placed_part : (at : ℕ) (front old part rest : List ℕ) → length front ≡ at → length part ≡ length old → with_part at part (front ++ (old ++ rest)) ≡ front ++ (part ++ rest)
unfolding with_part
placed_part at front old part rest here same =
    let head : take at (front ++ (old ++ rest)) ≡ front = take_at front (old ++ rest) at here in
    let tail : drop (at + length part) (front ++ (old ++ rest)) ≡ rest =
    sym (drop-drop (length part) at (front ++ (old ++ rest)))
    ∙ ap (drop (length part)) (drop_at front (old ++ rest) at here)
    ∙ drop_at old rest (length part) (sym same) in
    ap (λ l. l ++ (part ++ drop (at + length part) (front ++ (old ++ rest)))) head ∙ ap (λ l. front ++ (part ++ l)) tail

-- a part in the place of zeros
placed_zeros : (at n : ℕ) (front part : List ℕ) → length front ≡ at → length part ≤ n → with_part at part (front ++ replicate n 0) ≡ (front ++ part) ++ replicate (n - length part) 0
placed_zeros at n front part here fits =
    let size : length part + (n - length part) ≡ n = omega arith in
    let split : replicate n 0 ≡ replicate (length part) 0 ++ replicate (n - length part) 0 =
    ap (λ m. replicate m 0) (sym size) ∙ sym (replicate-append-replicate (length part) (n - length part) 0) in
    ap (λ l. with_part at part (front ++ l)) split
    ∙ placed_part at front (replicate (length part) 0) part (replicate (n - length part) 0) here (sym (length-replicate {A = ℕ} (length part) 0))
    ∙ sym (append_assoc front part (replicate (n - length part) 0))

-- a record's bytes after its distance
back_of : Rec → List ℕ
back_of r = drop 4 (text (record_fields 0 r))

distance_first : (next : ℕ) (r : Rec) → text (record_fields next r) ≡ little_bytes 4 next ++ back_of r
unfolding record_head back_of
distance_first next r = refl

-- the last of some records, and what stands in front of it
record Last (r : Rec) (rs : List Rec) : Type 0 where
  chain : List ℕ
  alone : text (records_fields (r ∷ rs)) ≡ chain ++ text (record_fields 0 (last_of r rs))
  joined : (q : Rec) → text (records_fields (r ∷ (rs ++ q ∷ []))) ≡ chain ++ (text (record_fields (room (last_of r rs)) (last_of r rs)) ++ text (record_fields 0 q))

one_record : (r : Rec) → text (records_fields (r ∷ [])) ≡ text (record_fields 0 r)
one_record r = text-append (record_fields 0 r) [] ∙ append-nil (text (record_fields 0 r))

last_record : (r : Rec) (rs : List Rec) → Last r rs
last_record r [] =
    record {
      chain = [];
      alone = one_record r;
      joined = λ q. text-append (record_fields (room r) r) (records_fields (q ∷ [])) ∙ ap (λ l. text (record_fields (room r) r) ++ l) (one_record q);
    }
last_record r (s ∷ rs) =
    let more = last_record s rs in
    let first = text (record_fields (room r) r) in
    record {
      chain = first ++ more.chain;
      alone = text-append (record_fields (room r) r) (records_fields (s ∷ rs)) ∙ ap (λ l. first ++ l) more.alone ∙ sym (append_assoc first more.chain (text (record_fields 0 (last_of s rs))));
      joined = λ q.
          text-append (record_fields (room r) r) (records_fields (s ∷ (rs ++ q ∷ [])))
          ∙ ap (λ l. first ++ l) (more.joined q)
          ∙ sym (append_assoc first more.chain (text (record_fields (room (last_of s rs)) (last_of s rs)) ++ text (record_fields 0 q)));
    }

last_push : (s : Rec) (ss : List Rec) (r : Rec) → last_of s (ss ++ r ∷ []) ≡ r
last_push s [] r = refl
last_push s (t ∷ ss) r = last_push t ss r

-- the bytes of a block whose last record has its distance to the next
record Linked (d : BlockBuilderView) (rs : List Rec) (r : Rec) : Type 0 where
  head : List ℕ
  head_size : length head ≡ 48
  links : List ℕ
  bytes : with_distance d.count d.last (d.used - d.last) d.bytes ≡ (head ++ links) ++ replicate (d.size - d.used) 0
  size : length (head ++ links) ≡ d.used
  records : text (records_fields (rs ++ r ∷ [])) ≡ links ++ text (record_fields 0 r)

link_none : (d : BlockBuilderView) (r : Rec) → HoldsRecords d [] → Linked d [] r
link_none d r h =
    record {
      head = h.head;
      head_size = h.head_size;
      links = [];
      bytes =
          ap (λ b. cond b d.bytes (with_part d.last (little_bytes 4 (d.used - d.last)) d.bytes)) (eq-eqb d.count 0 h.count)
          ∙ h.bytes
          ∙ ap (λ l. l ++ replicate (d.size - d.used) 0) (sym (append-nil h.head));
      size = ap length (append-nil h.head) ∙ h.head_size ∙ sym h.used;
      records = one_record r;
    }

link_some : (d : BlockBuilderView) (s : Rec) (ss : List Rec) (r : Rec) → HoldsRecords d (s ∷ ss) → Linked d (s ∷ ss) r
link_some d s ss r h =
    let l : Rec = last_of s ss in
    let last = last_record s ss in
    let zeros : List ℕ = replicate (d.size - d.used) 0 in
    let count = h.count in
    let used_is = h.used in
    let place = h.ends.2 in
    let head_size = h.head_size in
    let some : nat_eq d.count 0 ≡ false = ne_eqb d.count 0 (λ e. omega (arith, count)) in
    let far : d.used - d.last ≡ room l = omega (arith, used_is, place) in
    let all = length_records (s ∷ ss) in
    let split = ap length last.alone ∙ length-append last.chain (text (record_fields 0 l)) in
    let one = length_record 0 l in
    let front : length (h.head ++ last.chain) ≡ d.last = length-append h.head last.chain ∙ omega (arith, all, split, one, place, head_size) in
    let before : d.bytes ≡ (h.head ++ last.chain) ++ (little_bytes 4 0 ++ (back_of l ++ zeros)) =
    h.bytes
    ∙ ap (λ t. h.head ++ (t ++ zeros)) (last.alone ∙ ap (λ t. last.chain ++ t) (distance_first 0 l))
    ∙ simp append_assoc refl in
    let after : with_part d.last (little_bytes 4 (d.used - d.last)) d.bytes ≡ (h.head ++ last.chain) ++ (little_bytes 4 (room l) ++ (back_of l ++ zeros)) =
    ap (with_part d.last (little_bytes 4 (d.used - d.last))) before
    ∙ placed_part d.last (h.head ++ last.chain) (little_bytes 4 0) (little_bytes 4 (d.used - d.last)) (back_of l ++ zeros) front refl
    ∙ ap (λ n. (h.head ++ last.chain) ++ (little_bytes 4 n ++ (back_of l ++ zeros))) far in
    record {
      head = h.head;
      head_size = h.head_size;
      links = last.chain ++ text (record_fields (room l) l);
      bytes =
          ap (λ b. cond b d.bytes (with_part d.last (little_bytes 4 (d.used - d.last)) d.bytes)) some
          ∙ after
          ∙ simp append_assoc refl
          ∙ ap (λ t. (h.head ++ (last.chain ++ t)) ++ zeros) (sym (distance_first (room l) l));
      size =
          length-append h.head (last.chain ++ text (record_fields (room l) l))
          ∙ ap (λ n. length h.head + n) (length-append last.chain (text (record_fields (room l) l)))
          ∙ (let same = length_record (room l) l in omega (arith, all, split, one, same, used_is, head_size));
      records = last.joined r ∙ sym (append_assoc last.chain (text (record_fields (room l) l)) (text (record_fields 0 r)));
    }

link_all : (d : BlockBuilderView) (rs : List Rec) (r : Rec) → HoldsRecords d rs → Linked d rs r
link_all d [] r h = link_none d r h
link_all d (s ∷ ss) r h = link_some d s ss r h

-- what a builder keeps once a record was written
pub record Added (old new : BlockBuilderView) (r : Rec) : Type 0 where
  pub fits : old.used + room r ≤ old.size
  pub size : new.size ≡ old.size
  pub used : new.used ≡ old.used + room r
  pub count : new.count ≡ old.count + 1
  pub last : new.last ≡ old.used
  pub first_time : new.first_time ≡ (if nat_eq old.count 0 then time r else old.first_time)
  pub last_time : new.last_time ≡ time r
  pub bytes : new.bytes ≡ with_record old.count old.last old.used r old.bytes

-- the ends with one more record
ends_added : (old new : BlockBuilderView) (r : Rec) (rs : List Rec) → HoldsRecords old rs → Added old new r → HasEnds new (rs ++ r ∷ [])
ends_added old new r [] h a =
    let none : nat_eq old.count 0 ≡ true = eq-eqb old.count 0 h.count in
    let first : new.first_time ≡ time r = a.first_time ∙ ap (λ b. cond b (time r) old.first_time) none in
    let last = a.last in
    let used_is = h.used in
    (first, a.last_time, omega (arith, last, used_is))
ends_added old new r (s ∷ ss) h a =
    let count = h.count in
    let some : nat_eq old.count 0 ≡ false = ne_eqb old.count 0 (λ e. omega (arith, count)) in
    let first : new.first_time ≡ time s = a.first_time ∙ ap (λ b. cond b (time r) old.first_time) some ∙ h.ends.0 in
    let same = last_push s ss r in
    let last = a.last in
    let used_is = h.used in
    let more = used_push (s ∷ ss) r in (
      first,
      a.last_time ∙ ap time (sym same),
      ap (λ q. new.last + room q) same ∙ omega (arith, last, used_is, more),
    )

-- zeros in two parts
more_zeros : (n m k : ℕ) → n ≡ m + k → replicate {A = ℕ} n 0 ≡ replicate m 0 ++ replicate k 0
more_zeros n m k e = ap (λ i. replicate {A = ℕ} i 0) e ∙ sym (replicate-append-replicate m k 0)

-- a head and a body after others, and zeros after them
written_text : (records front links head body record_is : List ℕ) (pad left : ℕ) → records ≡ links ++ record_is → record_is ≡ head ++ (body ++ replicate pad 0) → (((front ++ links) ++ head) ++ body) ++ (replicate pad 0 ++ replicate left 0) ≡ front ++ (records ++ replicate left 0)
written_text records front links head body record_is pad left all one =
    let whole : links ++ (head ++ (body ++ replicate pad 0)) ≡ records = sym (all ∙ ap (λ t. links ++ t) one) in
    let joined : (((front ++ links) ++ head) ++ body) ++ (replicate pad 0 ++ replicate left 0) ≡ front ++ ((links ++ (head ++ (body ++ replicate pad 0))) ++ replicate left 0) = simp append_assoc refl in
    joined ∙ ap (λ t. front ++ (t ++ replicate left 0)) whole

-- the records are those before and the one that was written
pub record_added : (old new : BlockBuilderView) (r : Rec) (rs : List Rec) → HoldsRecords old rs → Added old new r → HoldsRecords new (rs ++ r ∷ [])
record_added old new r rs h a =
    let l = link_all old rs r h in
    let n : ℕ = old.size - old.used in
    let head : List ℕ = text (record_head 0 r) in
    let pad : ℕ = padded_len (length r.body) - length r.body in
    let fits = a.fits in
    let len : length head ≡ 48 = length-text (record_head 0 r) ∙ size_head 0 r in
    let front : List ℕ = l.head ++ l.links in
    let first : with_part old.used head (with_distance old.count old.last (old.used - old.last) old.bytes) ≡ (front ++ head) ++ replicate (n - length head) 0 =
    ap (with_part old.used head) l.bytes ∙ placed_zeros old.used n front head l.size (omega (arith, len)) in
    let there : length (front ++ head) ≡ old.used + 48 = let e = length-append front head in let s = l.size in omega (arith, e, s, len) in
    let second : with_record old.count old.last old.used r old.bytes ≡ ((front ++ head) ++ r.body) ++ replicate (n - length head - length r.body) 0 =
    ap (with_part (old.used + 48) r.body) first ∙ placed_zeros (old.used + 48) (n - length head) (front ++ head) r.body there (omega (arith, len)) in
    let used_is = a.used in
    let size_is = a.size in
    let left : n - length head - length r.body ≡ pad + (new.size - new.used) = omega (arith, len, used_is, size_is) in
    let zeros : replicate (n - length head - length r.body) 0 ≡ replicate pad 0 ++ replicate (new.size - new.used) 0 = more_zeros _ pad (new.size - new.used) left in
    let whole = written_text (text (records_fields (rs ++ r ∷ []))) l.head l.links head r.body (text (record_fields 0 r)) pad (new.size - new.used) l.records (record_split 0 r) in
    record {
      used = a.used ∙ ap (λ m. m + room r) h.used ∙ sym (used_push rs r);
      count = a.count ∙ ap (λ m. m + 1) h.count ∙ sym (length_push rs r);
      head = l.head;
      head_size = l.head_size;
      bytes =
          a.bytes
          ∙ second
          ∙ ap (λ t. ((front ++ head) ++ r.body) ++ t) zeros
          ∙ whole;
      ends = ends_added old new r rs h a;
    }

-- a block without records is zeros after its head
pub none_held : (d : BlockBuilderView) → d.used ≡ 48 → d.count ≡ 0 → 48 ≤ d.size → d.bytes ≡ replicate d.size 0 → HoldsRecords d []
none_held d used_is count_is fits zeros =
    let size : 48 + (d.size - d.used) ≡ d.size = omega arith in
    record {
      used = used_is;
      count = count_is;
      head = replicate 48 0;
      head_size = length-replicate {A = ℕ} 48 0;
      bytes = zeros ∙ ap (λ m. replicate m 0) (sym size) ∙ sym (replicate-append-replicate 48 (d.size - d.used) 0);
      ends = tt;
    }

-- a block whose head was written
pub record Headed (old new : BlockBuilderView) (number : ℕ) : Type 0 where
  pub size : new.size ≡ old.size
  pub used : new.used ≡ old.used
  pub count : new.count ≡ old.count
  pub last : new.last ≡ old.last
  pub first_time : new.first_time ≡ old.first_time
  pub last_time : new.last_time ≡ old.last_time
  pub bytes : new.bytes ≡ with_part 0 (text (block_head old.size number old.count old.used old.first_time old.last_time)) old.bytes

-- a head of any numbers has 48 bytes
block_head_size : (size number count used_is : ℕ) (first last : ℕ × ℕ) → length (text (block_head size number count used_is first last)) ≡ 48
unfolding block_head
block_head_size size number count used_is first last = refl

-- the ends stay
ends_stay : (old new : BlockBuilderView) (number : ℕ) (rs : List Rec) → Headed old new number → HasEnds old rs → HasEnds new rs
ends_stay old new number [] w e = tt
ends_stay old new number (r ∷ rs) w (first, last, place) =
    (w.first_time ∙ first, w.last_time ∙ last, ap (λ n. n + room (last_of r rs)) w.last ∙ place)

-- the records stay
pub head_stays : (old new : BlockBuilderView) (number : ℕ) (rs : List Rec) → Headed old new number → HoldsRecords old rs → HoldsRecords new rs
head_stays old new number rs w h =
    let head : List ℕ = text (block_head old.size number old.count old.used old.first_time old.last_time) in
    let size = block_head_size old.size number old.count old.used old.first_time old.last_time in
    let rest : List ℕ = text (records_fields rs) ++ replicate (old.size - old.used) 0 in
    record {
      used = w.used ∙ h.used;
      count = w.count ∙ h.count;
      head = head;
      head_size = size;
      bytes =
          w.bytes
          ∙ ap (with_part 0 head) h.bytes
          ∙ placed_part 0 [] h.head head rest refl (size ∙ sym h.head_size)
          ∙ ap (λ m. head ++ (text (records_fields rs) ++ replicate m 0)) (let a = w.size in let b = w.used in let e : old.size - old.used ≡ new.size - new.used = omega (arith, a, b) in e);
      ends = ends_stay old new number rs w h.ends;
    }

-- the bytes are those of the block
pub block_finished : (old new : BlockBuilderView) (number : ℕ) (rs : List Rec) → Headed old new number → 1 ≤ old.count → HoldsRecords old rs → new.bytes ≡ block_text old.size number rs
block_finished old new number [] w some h = absurd (let count = h.count in omega (arith, count))
block_finished old new number (r ∷ rs) w some h =
    let head : List ℕ = text (block_head old.size number old.count old.used old.first_time old.last_time) in
    let size = block_head_size old.size number old.count old.used old.first_time old.last_time in
    let rest : List ℕ = text (records_fields (r ∷ rs)) ++ replicate (old.size - old.used) 0 in
    let is : head ≡ text (head_of_block old.size number r rs) =
    ap (λ n. text (block_head old.size number n old.used old.first_time old.last_time)) h.count
    ∙ ap (λ n. text (block_head old.size number (length (r ∷ rs)) n old.first_time old.last_time)) h.used
    ∙ ap (λ t. text (block_head old.size number (length (r ∷ rs)) (used_bytes (r ∷ rs)) t old.last_time)) h.ends.0
    ∙ ap (λ t. text (block_head old.size number (length (r ∷ rs)) (used_bytes (r ∷ rs)) (time r) t)) h.ends.1 in
    w.bytes
    ∙ ap (with_part 0 head) h.bytes
    ∙ placed_part 0 [] h.head head rest refl (size ∙ sym h.head_size)
    ∙ ap (λ l. l ++ rest) is
    ∙ ap (λ m. text (head_of_block old.size number r rs) ++ (text (records_fields (r ∷ rs)) ++ replicate (old.size - m) 0)) h.used
    ∙ sym (block_split old.size number r rs)
