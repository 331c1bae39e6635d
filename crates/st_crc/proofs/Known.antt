-- The entries of the tables, from the definition: what 8 bits make of each byte, and of each entry
-- of the table before.
use Rattle.std.proofs.Common.{◌≡◌, ℕ, zero, suc, ◌+◌, ◌-◌, ◌*◌, ◌<◌, ◌≤◌, List, [], ◌∷◌, length, get_or, map, take, refl, sym, ap, ◌∙◌, arith, length-take, subst}
use Rattle.std.proofs.lemmas.List.{get_or-map, get_or-take, length-map}
use Rattle.std.proofs.lemmas.List.FromFn.{get_or-range_with_len, length-range_with_len}
use Rattle.std.specs.List.{range_with_len}
use Rattle.st_crc.specs.Sum.{bits_out, bit_out}
use Rattle.st_crc.proofs.Linear.{bits_more}
use Rattle.st_crc.proofs.Eights.{no_bits}
use Rattle.st_crc.specs.declared.tables.TheConstants.{TABLES}

-- the bytes themselves, and the tables but the last
before : List (List ℕ) → List (List ℕ)
before tables = range_with_len 0 256 ∷ take 15 tables

-- the tables are these again, 8 bits on: each entry is computed
made : TABLES ≡ map (map (bits_out 8)) (before TABLES)
unfolding before bits_out bit_out
made = refl

-- what so many bits make of each byte
abbrev pub IsTable : ℕ → List ℕ → Type 0
IsTable k table = (length table ≡ 256) × ((j : ℕ) → j < 256 → get_or table j 0 ≡ bits_out k j)

-- no bits leave each byte as it is
bytes_are : IsTable 0 (range_with_len 0 256)
bytes_are =
    (length-range_with_len 0 256, λ j l. get_or-range_with_len 0 256 j 0 l ∙ omega arith ∙ sym (no_bits j))

-- eight bits more
longer : (k : ℕ) (table : List ℕ) → IsTable k table → IsTable (k + 8) (map (bits_out 8) table)
longer k table is =
    (length-map table (bits_out 8) ∙ is.0, λ j l. get_or-map (bits_out 8) table j 0 0 (rw is.0 l) ∙ ap (bits_out 8) (is.1 j l) ∙ sym (bits_more k 8 j))

-- each table is what 8 bits make of the one before it
follows : (tables : List (List ℕ)) → length tables ≡ 16 → tables ≡ map (map (bits_out 8)) (before tables) → (i : ℕ) → i < 16 → get_or tables i [] ≡ map (bits_out 8) (get_or (before tables) i [])
unfolding before
follows tables size is i l =
    let sized : length (before tables) ≡ 16 = rw (length-take 15 tables, size) refl in
    ap (λ (t : List (List ℕ)). get_or t i []) is ∙ get_or-map (map (bits_out 8)) (before tables) i [] [] (rw sized l)

-- so each is what its number of bits makes of each byte
table_is : (tables : List (List ℕ)) → length tables ≡ 16 → tables ≡ map (map (bits_out 8)) (before tables) → (i : ℕ) → i < 16 → IsTable (8 * i + 8) (get_or tables i [])
unfolding before
table_is tables size is zero l =
    subst (IsTable 8) (sym (follows tables size is 0 l)) (longer 0 (range_with_len 0 256) bytes_are)
table_is tables size is (suc i) l =
    let former : get_or (before tables) (suc i) [] ≡ get_or tables i [] = get_or-take 15 tables i [] (omega arith) in
    let here : get_or tables (suc i) [] ≡ map (bits_out 8) (get_or tables i []) = follows tables size is (suc i) l ∙ ap (map (bits_out 8)) former in
    let bits : 8 * i + 8 + 8 ≡ 8 * suc i + 8 = omega arith in
    rw (here, sym bits) (longer (8 * i + 8) (get_or tables i []) (table_is tables size is i (omega arith)))

-- an entry is what the bits of so many bytes make of its place
pub entry_is : (bytes j : ℕ) → 1 ≤ bytes → bytes ≤ 16 → j < 256 → get_or (get_or TABLES (bytes - 1) []) j 0 ≡ bits_out (8 * bytes) j
entry_is bytes j low high l =
    (table_is TABLES refl made (bytes - 1) (omega arith)).1 j l ∙ ap (λ (k : ℕ). bits_out k j) (omega arith)
