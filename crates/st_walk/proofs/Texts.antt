-- A key's text tells the key.
use Rattle.std.proofs.Common.{◌≡◌, ℕ, ◌<◌, ◌^◌, ◌==◌, List, [], ◌∷◌, Option, Some, None, if◌then◌else◌, sym, ap, ◌∙◌}
use Rattle.std.proofs.lemmas.List.{append-nil}
use Rattle.byteorder.specs.Numbers.{big_number-reads_back}
use Rattle.byteorder.specs.Endian.{big_number, big_bytes}
use Rattle.st_walk.specs.declared.text.Key.{Key}
use Rattle.st_walk.specs.declared.text.Key.TheVariants.{Proto, Port, Vlan, V4, Mpls, V6, Second}
use Rattle.st_walk.specs.KeyText.{key_text, Fits}

-- the key that a text is of
read : List ℕ → Option Key
read [] = None
read (t ∷ b) =
    if t == 1 then Some (Proto (big_number 1 b)) else (if t == 2 then Some (Port (big_number 2 b)) else (if t == 3 then Some (Vlan (big_number 2 b)) else (if t == 4 then Some (V4 (big_number 4 b)) else (if t == 5 then Some (Mpls (big_number 4 b)) else (if t == 6 then Some (V6 (big_number 16 b)) else Some (Second (big_number 4 b)))))))

reads : (n x : ℕ) → x < 256 ^ n → big_number n (big_bytes n x) ≡ x
reads n x h = rw append-nil at (big_number-reads_back n x [] h)

read_text : (k : Key) → Fits k → read (key_text k) ≡ Some k
unfolding read
read_text (Proto n) h = ap (λ x. Some (Proto x)) (reads 1 n h)
read_text (Port n) h = ap (λ x. Some (Port x)) (reads 2 n h)
read_text (Vlan n) h = ap (λ x. Some (Vlan x)) (reads 2 n h)
read_text (V4 n) h = ap (λ x. Some (V4 x)) (reads 4 n h)
read_text (Mpls n) h = ap (λ x. Some (Mpls x)) (reads 4 n h)
read_text (V6 n) h = ap (λ x. Some (V6 x)) (reads 16 n h)
read_text (Second n) h = ap (λ x. Some (Second x)) (reads 4 n h)

-- two keys with one text are one key
pub same_key : (k j : Key) → Fits k → Fits j → key_text k ≡ key_text j → k ≡ j
same_key k j h i e =
    let s : Some k ≡ Some j = sym (read_text k h) ∙ (ap (λ t. read t) e ∙ read_text j i) in cc
