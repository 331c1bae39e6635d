-- The plan of a load has a layout and a limit that a load may have, and that of a drill as many
-- packets as a drill makes.
use Rattle.std.proofs.Common.{◌≤◌, ℕ, List, Option, Some, None, refl, sym, subst, arith}
use Rattle.st_block.specs.BlockText.{IsBlockSize}
use Rattle.st_block.specs.declared.format.TheConstants.{MAX_BLOCKS}
use Rattle.st_plan.specs.Jobs.{LoadPlan, DrillPlan}
use Rattle.st_plan.specs.Plans.{IsPlan, IsSize, IsBlocks, IsPairs}
use Rattle.st_plan.specs.declared.jobs.Plan.TheVariants.{Load, Drill}
use Rattle.st_plan.specs.declared.limits.TheConstants.{DEFAULT_SIZE, MAX_PACKETS}
use Rattle.steno.specs.Loading.{IsSound}

default_size : IsBlockSize DEFAULT_SIZE
default_size = record { power = 20; is = refl; least = omega arith; most = omega arith }

size_sound : (v : Option (List ℕ)) (n : ℕ) → IsSize v n → IsBlockSize n
size_sound None n is = subst IsBlockSize (sym is) default_size
size_sound (Some w) n is = is.1

least_blocks : (v : Option (List ℕ)) (n : ℕ) → IsBlocks v n → 1 ≤ n
least_blocks None n is = omega (arith, is)
least_blocks (Some w) n is = is.1

most_blocks : (v : Option (List ℕ)) (n : ℕ) → IsBlocks v n → n ≤ MAX_BLOCKS
most_blocks None n is = omega (arith, is)
most_blocks (Some w) n is = is.2

least_pairs : (v : Option (List ℕ)) (n : ℕ) → IsPairs v n → 1 ≤ n
least_pairs None n is = omega (arith, is)
least_pairs (Some w) n is = is.1

pub sound : (words : List (List ℕ)) (load : LoadPlan) → IsPlan words (Load load) → IsSound load
sound words load (o, gs, line, asks) = record {
  limit = least_pairs _ load.limit asks.options.2;
  size = size_sound _ load.plan.size asks.options.1.size;
  some = least_blocks _ load.plan.blocks asks.options.1.blocks;
  most = most_blocks _ load.plan.blocks asks.options.1.blocks;
}

pub sound_count : (words : List (List ℕ)) (drill : DrillPlan) → IsPlan words (Drill drill) → drill.packets ≤ MAX_PACKETS
sound_count words drill (o, gs, line, asks) = asks.operands.2.2
