-- The keys that an iterator has still to give.
use Rattle.std.proofs.Common.{◌≡◌, ℕ, zero, suc, ◌+◌, List, [], ◌∷◌, drop, Some, None, slice_get, refl, ap, ◌∙◌, add-one}
use Rattle.st_walk.specs.declared.header.Spot.{Spot}
use Rattle.st_walk.specs.declared.text.Key.{Key}
use Rattle.st_walk.specs.declared.iter.Keys.{Keys}
use Rattle.st_walk.specs.Layers.{layer_keys}
use Rattle.st_walk.specs.Listing.{following, walk_keys, keys_left}
use Rattle.st_walk.proofs.Walks.{walk_unroll}

drop_some : {X : Type 0} (xs : List X) (i : ℕ) (x : X) → slice_get xs i ≡ Some x → drop i xs ≡ x ∷ drop (suc i) xs
drop_some [] i x e = cc
drop_some (y ∷ ys) zero x e = let k : y ≡ x = cc in ap (λ z. z ∷ ys) k
drop_some (y ∷ ys) (suc i) x e = drop_some ys i x e

drop_none : {X : Type 0} (xs : List X) (i : ℕ) → slice_get xs i ≡ None → drop i xs ≡ []
drop_none [] zero e = refl
drop_none [] (suc i) e = refl
drop_none (y ∷ ys) zero e = cc
drop_none (y ∷ ys) (suc i) e = drop_none ys i e

-- a key of the layer is the first that is left
pub first_left : (s : Keys) (k : Key) → slice_get (layer_keys s.frame.now s.spot.at s.spot.layer) s.given ≡ Some k → keys_left s ≡ k ∷ keys_left (record s { given = s.given + 1 })
unfolding keys_left
first_left s k e = rw (drop_some (layer_keys s.frame.now s.spot.at s.spot.layer) s.given k e, add-one) refl

-- where the layer has no more, those of what follows are left
pub passed : (s : Keys) → slice_get (layer_keys s.frame.now s.spot.at s.spot.layer) s.given ≡ None → keys_left s ≡ walk_keys s.frame.now (following s.frame.now s.spot.at s.spot.layer)
unfolding keys_left
passed s e = rw (drop_none (layer_keys s.frame.now s.spot.at s.spot.layer) s.given e) refl

pub moved : (s : Keys) (q : Spot) → slice_get (layer_keys s.frame.now s.spot.at s.spot.layer) s.given ≡ None → following s.frame.now s.spot.at s.spot.layer ≡ Some q → keys_left s ≡ keys_left (record s { spot = q; given = 0 })
unfolding keys_left
moved s q e f = passed s e ∙ (ap (λ x. walk_keys s.frame.now x) f ∙ walk_unroll s.frame.now q)

-- and none are left at the end of the walk
pub finished : (s : Keys) → slice_get (layer_keys s.frame.now s.spot.at s.spot.layer) s.given ≡ None → following s.frame.now s.spot.at s.spot.layer ≡ None → keys_left s ≡ []
unfolding walk_keys
finished s e f = passed s e ∙ ap (λ x. walk_keys s.frame.now x) f
