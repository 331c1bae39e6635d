-- The rows of packets select the positions of exactly those that match.
use Rattle.std.proofs.Common.{◌≡◌, ℕ, ◌<◌, ◌≤◌, ◌^◌, ◌↔◌, Bool, true, false, ◌&&◌, ◌||◌, if◌then◌else◌, Option, Some, None, List, [], ◌∷◌, IsTrue, Contains, ◌⊎◌, inl, inr, refl, sym, ap, ◌∙◌, subst, arith, true≢false, ⊎_elim}
use Rattle.std.proofs.lemmas.List.Elements.{All-contains}
use Rattle.std.specs.List.{list_any}
use Rattle.st_base.specs.Records.{Rec}
use Rattle.st_walk.specs.declared.text.Key.{Key}
use Rattle.st_walk.specs.declared.text.Key.TheVariants as key
use Rattle.st_walk.specs.KeyText.{key_text, Fits}
use Rattle.st_walk.proofs.Texts.{same_key}
use Rattle.st_query.specs.Trees.{Tree, both, either, one, tree, InRange}
use Rattle.st_query.specs.Meaning.{MatchesTree}
use Rattle.st_tblock.specs.Block.{RowView}
use Rattle.st_table.specs.RowOrder.{in_range}
use Rattle.st_block.specs.Scan.{PositionedRecord}
use Rattle.st_block.specs.BlockText.{HasBytes}
use Rattle.st_rows.specs.KeyOrder.{lies_text}
use Rattle.st_rows.specs.Rows.{summary_key, summary_value, HasAt, IsKeyRow, AllFit}
use Rattle.st_rows.proofs.KeyTexts.{texts_between}
use Rattle.st_rows.proofs.OneList.{here, there, here_or}
use Rattle.st_rows.proofs.Packets.{one_packet_at, packet_keys_fit}
use Rattle.st_rows.proofs.Values.{rows_say}
use Rattle.st_eval.specs.declared.ranges.TheConstants.{LAST_SECOND}
use Rattle.st_eval.specs.Ranges.{range_of, HasIn, EndsFit}
use Rattle.st_eval.specs.Selection.{IsIndexOf}
use Rattle.st_eval.specs.Selecting.{row_has, picks, selects, SelectsMatching}
use Rattle.st_eval.proofs.PrimitiveRanges.{matches_by_range, ranges_fit}

-- ---- tests

and_from : (a b : Bool) → (a && b) ≡ true → (a ≡ true) × (b ≡ true)
and_from true b h = (refl, h)
and_from false b h = absurd (true≢false (sym h))

and_to : (a b : Bool) → a ≡ true → b ≡ true → (a && b) ≡ true
and_to true b h i = i
and_to false b h i = h

or_from : (a b : Bool) → (a || b) ≡ true → (a ≡ true) ⊎ (b ≡ true)
or_from true b h = inl refl
or_from false b h = inr h

or_left : (a b : Bool) → a ≡ true → (a || b) ≡ true
or_left true b h = refl
or_left false b h = absurd (true≢false (sym h))

or_right : (a b : Bool) → b ≡ true → (a || b) ≡ true
or_right true b h = refl
or_right false b h = h

and_false : (a : Bool) → (a && false) ≡ true → ⊥
and_false true h = true≢false (sym h)
and_false false h = true≢false (sym h)

-- ---- rows of a range

-- a row in the range that passes a test
any_from : (t : RowView → Bool) (low high : List ℕ) (rows : List RowView) → IsTrue (list_any t (in_range low high rows)) → (row : RowView) × Contains rows row × IsTrue (lies_text low high row.0) × IsTrue (t row)
any_from t low high [] h = absurd (true≢false (sym h))
any_from t low high (x ∷ rows) h = elim (lies_text low high x.0) as (λ b. lies_text low high x.0 ≡ b → IsTrue (list_any t (if b then x ∷ in_range low high rows else in_range low high rows)) → (row : RowView) × Contains (x ∷ rows) row × IsTrue (lies_text low high row.0) × IsTrue (t row)) [
  | true ↦ λ e h. ⊎_elim (λ a. (x, here x rows, e, a)) (λ a. let (row, c, l, i) = any_from t low high rows a in (row, there x row rows c, l, i)) (or_from (t x) _ h)
  | false ↦ λ e h. let (row, c, l, i) = any_from t low high rows h in (row, there x row rows c, l, i)
] refl h

any_to : (t : RowView → Bool) (low high : List ℕ) (rows : List RowView) (row : RowView) → Contains rows row → IsTrue (lies_text low high row.0) → IsTrue (t row) → IsTrue (list_any t (in_range low high rows))
any_to t low high [] row c l i = let less = c.1 in let no : ⊥ = omega arith in absurd no
any_to t low high (x ∷ rows) row c l i = elim (lies_text low high x.0) as (λ b. lies_text low high x.0 ≡ b → IsTrue (list_any t (if b then x ∷ in_range low high rows else in_range low high rows))) [
  | true ↦ λ e. ⊎_elim (λ same. or_left (t x) _ (ap t same ∙ i)) (λ c. or_right (t x) _ (any_to t low high rows row c l i)) (here_or x row rows c)
  | false ↦ λ e. ⊎_elim (λ same. let bad : true ≡ false = sym l ∙ (ap (λ (r : RowView). lies_text low high r.0) (sym same) ∙ e) in absurd (true≢false bad)) (λ c. any_to t low high rows row c l i) (here_or x row rows c)
] refl

-- the summary row is in no range of keys
pub no_summary : (low high : Key) → IsTrue (lies_text (key_text low) (key_text high) summary_key) → ⊥
no_summary (key.Proto n) b h = and_false _ h
no_summary (key.Port n) b h = and_false _ h
no_summary (key.Vlan n) b h = and_false _ h
no_summary (key.V4 n) b h = and_false _ h
no_summary (key.Mpls n) b h = and_false _ h
no_summary (key.V6 n) b h = and_false _ h
no_summary (key.Second n) b h = and_false _ h

-- ---- what a range picks

-- the packet at a position, which has a key in the range
abbrev HasInAt : List PositionedRecord → Option (Key × Key) → ℕ → Type 0
HasInAt given o p = (r : Rec) × Contains given (p, r) × HasIn o r

picks_from : (given : List PositionedRecord) (rows : List RowView) (low high : Key) (p : ℕ) → IsIndexOf given rows → Fits low → Fits high → IsTrue (picks rows (Some (low, high)) p) → HasInAt given (Some (low, high)) p
picks_from given rows low high p is f g h =
    let (row, c, l, i) = any_from (row_has p) (key_text low) (key_text high) rows h in
    let split = is.are.split in
    ⊎_elim
    (λ same. absurd (no_summary low high (subst (λ (t : List ℕ). IsTrue (lies_text (key_text low) (key_text high) t)) (ap (λ (x : RowView). x.0) (sym same)) l)))
    (λ d.
    let (k, fk, of_key) = All-contains (λ (x : RowView). (k : Key) × Fits k × IsKeyRow given k x) is.are.keys row is.are.of_keys.each d in
    let (r, cr, hk) = (rows_say given k row p is.fit of_key).0 i in
    (r, cr, (k, hk, sym (texts_between low high k f g fk) ∙ (ap (λ (t : List ℕ). lies_text (key_text low) (key_text high) t) (sym of_key.key) ∙ l))))
    (here_or (summary_key, summary_value is.are.summary) row is.are.keys (subst (λ (xs : List RowView). Contains xs row) split c))

picks_to : (given : List PositionedRecord) (rows : List RowView) (low high : Key) (p : ℕ) → IsIndexOf given rows → Fits low → Fits high → (r : Rec) → Contains given (p, r) → HasIn (Some (low, high)) r → IsTrue (picks rows (Some (low, high)) p)
picks_to given rows low high p is f g r cr (k, hk, l) =
    let (row, c, name) = is.are.of_keys.all k p (r, cr, hk) in
    let (j, fj, of_key) = All-contains (λ (x : RowView). (k : Key) × Fits k × IsKeyRow given k x) is.are.keys row is.are.of_keys.each c in
    let fk = packet_keys_fit given k p is.fit (r, cr, hk) in
    let same : j ≡ k = same_key j k fj fk (sym of_key.key ∙ name) in
    let has_it = (rows_say given j row p is.fit of_key).1 (subst (λ (x : Key). HasAt given x p) (sym same) (r, cr, hk)) in
    any_to (row_has p) (key_text low) (key_text high) rows row (subst (λ (xs : List RowView). Contains xs row) (sym is.are.split) (there (summary_key, summary_value is.are.summary) row is.are.keys c))
    (ap (λ (t : List ℕ). lies_text (key_text low) (key_text high) t) name ∙ (texts_between low high k f g fk ∙ l)) has_it

picks_range : (given : List PositionedRecord) (rows : List RowView) (o : Option (Key × Key)) (p : ℕ) → IsIndexOf given rows → EndsFit o → IsTrue (picks rows o p) ↔ HasInAt given o p
picks_range given rows None p is f = (λ h. absurd (true≢false (sym h)), λ (r, c, h). absurd h)
picks_range given rows (Some (low, high)) p is f = (picks_from given rows low high p is f.0 f.1, λ (r, c, h). picks_to given rows low high p is f.0 f.1 r c h)

-- ---- queries

second_fits : (given : List PositionedRecord) (p : ℕ) (r : Rec) → AllFit given → Contains given (p, r) → r.sec ≤ LAST_SECOND
second_fits given p r fit c =
    let h = All-contains (λ (x : PositionedRecord). (x.0 < 2 ^ 32) × (x.1.sec < 2 ^ 32) × (x.1.nsec < 2 ^ 32) × HasBytes x.1) given (p, r) fit c in
    let less = h.1 in
    omega arith

-- the packet at the position matches the tree
abbrev pub MatchesTreeAt : Tree → ℕ → List PositionedRecord → ℕ → Type 0
MatchesTreeAt q now given p = (r : Rec) × Contains given (p, r) × MatchesTree q now r

pub selects_tree : (given : List PositionedRecord) (rows : List RowView) (q : Tree) (now p : ℕ) → IsIndexOf given rows → InRange q → IsTrue (selects rows q now p) ↔ MatchesTreeAt q now given p
selects_tree given rows (both a b) now p is ok =
    let x = selects_tree given rows a now p is ok.0 in
    let y = selects_tree given rows b now p is ok.1 in (
      λ h.
          let s = and_from _ _ h in
          let (r, c, f) = x.0 s.0 in
          let (t, d, g) = y.0 s.1 in
          (r, c, (f, subst (λ (z : Rec). MatchesTree b now z) (one_packet_at given p t r is.rise d c) g)),
      λ (r, c, f). and_to _ _ (x.1 (r, c, f.0)) (y.1 (r, c, f.1)),
    )
selects_tree given rows (either a b) now p is ok =
    let x = selects_tree given rows a now p is ok.0 in
    let y = selects_tree given rows b now p is ok.1 in (
      λ h. ⊎_elim (λ s. let (r, c, f) = x.0 s in (r, c, inl f)) (λ s. let (r, c, f) = y.0 s in (r, c, inr f)) (or_from _ _ h),
      λ (r, c, f). ⊎_elim (λ s. or_left _ _ (x.1 (r, c, s))) (λ s. or_right _ _ (y.1 (r, c, s))) f,
    )
selects_tree given rows (one q) now p is ok =
    let x = picks_range given rows (range_of q now) p is (ranges_fit q now ok) in (
      λ h. let (r, c, i) = x.0 h in (r, c, (matches_by_range q now r (second_fits given p r is.fit c)).1 i),
      λ (r, c, i). x.1 (r, c, (matches_by_range q now r (second_fits given p r is.fit c)).0 i),
    )

pub selects_matching : SelectsMatching
selects_matching given rows q now p is ok = selects_tree given rows (tree q) now p is ok
