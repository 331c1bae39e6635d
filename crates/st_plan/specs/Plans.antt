-- What a command line asks for.
use Rattle.std.specs.Prelude.{◌≡◌, ◌≢◌, ℕ, ◌-◌, ◌^◌, ◌≤◌, List, [], ◌∷◌, Option, Some, None, Bool, false, ◌||◌, is_some, length, codes, if◌then◌else◌}
use Rattle.std.specs.Str.Parse.{IsNumeral, digits_value}
use Rattle.clap.specs.Words.{Text}
use Rattle.st_block.specs.BlockText.{IsBlockSize}
use Rattle.st_block.specs.declared.format.TheConstants.{MAX_BLOCKS}
use Rattle.st_pcap.specs.declared.forms.Unit.TheVariants.{Micro, Nano}
use Rattle.st_plan.specs.Jobs.{Job}
use Rattle.st_plan.specs.Line.{Options, Line, no_options, packets, bytes, block, blocks, limit}
use Rattle.st_plan.specs.declared.jobs.LanePlan.{LanePlan}
use Rattle.st_plan.specs.declared.jobs.Plan.{Plan}
use Rattle.st_plan.specs.declared.jobs.Plan.TheVariants as plan
use Rattle.st_plan.specs.declared.limits.TheConstants.{DEFAULT_SIZE, DEFAULT_BLOCKS, DEFAULT_PAIRS, MAX_PAIRS, MAX_PACKETS}

-- one to ten decimal digits write this number, below 2^32
abbrev pub IsNumber : Text → ℕ → Type 0
IsNumber word n =
    IsNumeral 10 word × (length word ≤ 10) × (digits_value 10 word ≡ n) × (n ≤ 4_294_967_295)

-- the limit that an option sets; one that is not given is no limit
abbrev pub IsLimit : Option Text → ℕ → Type 0
IsLimit None n = n ≡ 2 ^ 64 - 1
IsLimit (Some word) n = IsNumber word n

-- the block size that an option sets; one that is not given is the default
abbrev pub IsSize : Option Text → ℕ → Type 0
IsSize None n = n ≡ DEFAULT_SIZE
IsSize (Some word) n = IsNumber word n × IsBlockSize n

-- the number of blocks that an option sets; one that is not given is the default
abbrev pub IsBlocks : Option Text → ℕ → Type 0
IsBlocks None n = n ≡ DEFAULT_BLOCKS
IsBlocks (Some word) n = IsNumber word n × (1 ≤ n) × (n ≤ MAX_BLOCKS)

-- the number of pairs that an option sets; one that is not given is the default
abbrev pub IsPairs : Option Text → ℕ → Type 0
IsPairs None n = n ≡ DEFAULT_PAIRS
IsPairs (Some word) n = IsNumber word n × (1 ≤ n) × (n ≤ MAX_PAIRS)

-- the number of packets that an operand asks for
abbrev pub IsCount : Text → ℕ → Type 0
IsCount word n = IsNumber word n × (1 ≤ n) × (n ≤ MAX_PACKETS)

-- the operands of each command
abbrev pub AreOperands : List Text → Plan → Type 0
AreOperands gs (plan.Once job) = gs ≡ codes "once" ∷ (job.query ∷ [])
AreOperands gs (plan.Load load) = gs ≡ codes "load" ∷ (load.folder ∷ [])
AreOperands gs (plan.Query query) = gs ≡ codes "query" ∷ (query.folder ∷ (query.job.query ∷ []))
AreOperands gs (plan.List spool) = gs ≡ codes "list" ∷ (spool.folder ∷ [])
AreOperands gs (plan.Check spool) = gs ≡ codes "check" ∷ (spool.folder ∷ [])
AreOperands gs (plan.Drill drill) =
    (word : Text) × (gs ≡ codes "drill" ∷ (drill.folder ∷ (word ∷ []))) × IsCount word drill.packets

-- the folder that each command but `once` names
abbrev pub folder_of : Plan → Option Text
folder_of (plan.Once job) = None
folder_of (plan.Load load) = Some load.folder
folder_of (plan.Query query) = Some query.folder
folder_of (plan.List spool) = Some spool.folder
folder_of (plan.Check spool) = Some spool.folder
folder_of (plan.Drill drill) = Some drill.folder

-- the options of an answer: `--ns`, `--packets` and `--bytes`
pub record FormsAnswer (o : Options) (job : Job) : Type 0 where
  pub unit : job.unit ≡ (if o.ns then Nano else Micro)
  pub packets : IsLimit (o.value packets) job.limits.packets
  pub bytes : IsLimit (o.value bytes) job.limits.bytes

-- the options of a lane: `--block` and `--blocks`
pub record FormsLane (o : Options) (lane : LanePlan) : Type 0 where
  pub size : IsSize (o.value block) lane.size
  pub blocks : IsBlocks (o.value blocks) lane.blocks

-- whether an option of an answer is given, and whether one of `load` is
abbrev pub has_answer_option : Options → Bool
has_answer_option o = o.ns || is_some (o.value packets) || is_some (o.value bytes)

abbrev pub has_load_option : Options → Bool
has_load_option o = is_some (o.value block) || is_some (o.value blocks) || is_some (o.value limit)

-- each command's options say what its plan is, and no option of another command is given
abbrev pub FitsOptions : Options → Plan → Type 0
FitsOptions o (plan.Once job) = FormsAnswer o job × (has_load_option o ≡ false)
FitsOptions o (plan.Load load) =
    (has_answer_option o ≡ false) × FormsLane o load.plan × IsPairs (o.value limit) load.limit
FitsOptions o (plan.Query query) = FormsAnswer o query.job × (has_load_option o ≡ false)
FitsOptions o (plan.List spool) = (has_answer_option o ≡ false) × (has_load_option o ≡ false)
FitsOptions o (plan.Check spool) = (has_answer_option o ≡ false) × (has_load_option o ≡ false)
FitsOptions o (plan.Drill drill) = (has_answer_option o ≡ false) × (has_load_option o ≡ false)

-- these options and operands ask for this plan; its folder has a name
pub record Asks (o : Options) (gs : List Text) (p : Plan) : Type 0 where
  pub operands : AreOperands gs p
  pub folder : folder_of p ≢ Some []
  pub options : FitsOptions o p

-- these arguments have this plan
abbrev pub IsPlan : List Text → Plan → Type 0
IsPlan words p = (o : Options) × (gs : List Text) × Line no_options [] words o gs × Asks o gs p
