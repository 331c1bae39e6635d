-- Words have one plan at most.
use Rattle.std.specs.Str.Parse.{digits_value}
use Rattle.std.proofs.Common.{◌≡◌, ℕ, Bool, true, false, List, [], ◌∷◌, Option, Some, None, refl, sym, ap, ◌∙◌, subst, codes, cond}
use Rattle.clap.specs.Words.{Text, matches_of}
use Rattle.clap.specs.Walk.{walk, nothing_held}
use Rattle.st_plan.specs.Jobs.{Job, LoadPlan, QueryPlan, SpoolPlan, DrillPlan}
use Rattle.st_plan.specs.Line.{Valued, packets, bytes, block, blocks, limit, Options, Line, no_options}
use Rattle.st_plan.specs.Rules.{line_app}
use Rattle.st_plan.specs.Plans.{IsPlan, Asks, FormsAnswer, FormsLane, IsLimit, IsSize, IsBlocks, IsPairs, IsCount}
use Rattle.st_plan.specs.declared.jobs.LanePlan.{LanePlan}
use Rattle.st_plan.specs.declared.jobs.Plan.{Plan}
use Rattle.st_plan.specs.declared.jobs.Plan.TheVariants as plan
use Rattle.st_plan.proofs.Holds.{some_of}
use Rattle.st_plan.proofs.Steps.{rules}
use Rattle.st_plan.proofs.Finish.{Said, said, reads}
use Rattle.st_plan.proofs.Named.{other_named}

same_flag : (a b : Bool) → Some (cond a (codes "true") (codes "false")) ≡ Some (cond b (codes "true") (codes "false")) → a ≡ b
same_flag true true h = refl
same_flag true false h = absurd cc
same_flag false true h = absurd cc
same_flag false false h = refl

same_list : (gs hs : List Text) → some_of gs ≡ some_of hs → gs ≡ hs
same_list [] [] h = refl
same_list [] (x ∷ hs) h = absurd cc
same_list (g ∷ gs) [] h = absurd cc
same_list (g ∷ gs) (x ∷ hs) h = cc

line_says : (words : List Text) (o : Options) (gs : List Text) → Line no_options [] words o gs → Said o gs (matches_of line_app words)
line_says words o gs line = said o gs (walk rules [] nothing_held words).held (reads words o gs line).final.holds

-- a line is read in one way
pub one_reading : (words : List Text) (o p : Options) (gs hs : List Text) → Line no_options [] words o gs → Line no_options [] words p hs → (o ≡ p) × (gs ≡ hs)
one_reading words o p gs hs a b =
    let s = line_says words o gs a in
    let t = line_says words p hs b in
    let flag : o.ns ≡ p.ns = same_flag o.ns p.ns (sym s.ns ∙ t.ns) in
    let value : (x : Valued) → o.value x ≡ p.value x = λ x. sym (s.value x) ∙ t.value x in
    (λ i. record { ns = flag i; value = λ x. value x i }, same_list gs hs (sym s.words ∙ t.words))

same_limit : (v : Option Text) (m n : ℕ) → IsLimit v m → IsLimit v n → m ≡ n
same_limit None m n h k = h ∙ sym k
same_limit (Some word) m n h k = sym h.2 ∙ k.2

same_size : (v : Option Text) (m n : ℕ) → IsSize v m → IsSize v n → m ≡ n
same_size None m n h k = h ∙ sym k
same_size (Some word) m n h k = sym h.0.2 ∙ k.0.2

same_blocks : (v : Option Text) (m n : ℕ) → IsBlocks v m → IsBlocks v n → m ≡ n
same_blocks None m n h k = h ∙ sym k
same_blocks (Some word) m n h k = sym h.0.2 ∙ k.0.2

same_pairs : (v : Option Text) (m n : ℕ) → IsPairs v m → IsPairs v n → m ≡ n
same_pairs None m n h k = h ∙ sym k
same_pairs (Some word) m n h k = sym h.0.2 ∙ k.0.2

same_count : (v w : Text) (m n : ℕ) → v ≡ w → IsCount v m → IsCount w n → m ≡ n
same_count v w m n e h k = sym h.0.2 ∙ ap (digits_value 10) e ∙ k.0.2

same_job : (o : Options) (j k : Job) → j.query ≡ k.query → FormsAnswer o j → FormsAnswer o k → j ≡ k
same_job o j k query h i =
    let unit : j.unit ≡ k.unit = h.unit ∙ sym i.unit in
    let most : j.limits.packets ≡ k.limits.packets = same_limit (o.value packets) j.limits.packets k.limits.packets h.packets i.packets in
    let size : j.limits.bytes ≡ k.limits.bytes = same_limit (o.value bytes) j.limits.bytes k.limits.bytes h.bytes i.bytes in
    λ x. record { query = query x; unit = unit x; limits = record { packets = most x; bytes = size x } }

same_lane : (o : Options) (l m : LanePlan) → FormsLane o l → FormsLane o m → l ≡ m
same_lane o l m h i =
    let size : l.size ≡ m.size = same_size (o.value block) l.size m.size h.size i.size in
    let most : l.blocks ≡ m.blocks = same_blocks (o.value blocks) l.blocks m.blocks h.blocks i.blocks in
    λ x. record { size = size x; blocks = most x }

same_load : (o : Options) (l m : LoadPlan) → l.folder ≡ m.folder → FormsLane o l.plan → FormsLane o m.plan → IsPairs (o.value limit) l.limit → IsPairs (o.value limit) m.limit → l ≡ m
same_load o l m folder h i j k =
    let lane = same_lane o l.plan m.plan h i in
    let most = same_pairs (o.value limit) l.limit m.limit j k in
    λ x. record { folder = folder x; plan = lane x; limit = most x }

same_drill : (d e : DrillPlan) → d.folder ≡ e.folder → d.packets ≡ e.packets → d ≡ e
same_drill d e folder many = λ x. record { folder = folder x; packets = many x }

same_query : (o : Options) (q r : QueryPlan) → q.folder ≡ r.folder → q.job.query ≡ r.job.query → FormsAnswer o q.job → FormsAnswer o r.job → q ≡ r
same_query o q r folder query h i = let job = same_job o q.job r.job query h i in λ x. record { folder = folder x; job = job x }

same_spool : (s t : SpoolPlan) → s.folder ≡ t.folder → s ≡ t
same_spool s t folder = λ x. record { folder = folder x }

one_operand : (c a b : Text) → c ∷ (a ∷ []) ≡ c ∷ (b ∷ []) → a ≡ b
one_operand c a b h = cc

two_operands : (c a b d e : Text) → c ∷ (a ∷ (b ∷ [])) ≡ c ∷ (d ∷ (e ∷ [])) → (a ≡ d) × (b ≡ e)
two_operands c a b d e h = (cc, cc)

-- these options and operands ask for one plan
one_asked : (o : Options) (gs : List Text) (p q : Plan) → Asks o gs p → Asks o gs q → p ≡ q
one_asked o gs (plan.Once s) (plan.Once t) h i =
    let query : s.query ≡ t.query = one_operand (codes "once") _ _ (sym h.operands ∙ i.operands) in
    ap plan.Once (same_job o s t query h.options.0 i.options.0)
one_asked o gs (plan.Once s) (plan.Load t) h i = absurd (other_named (codes "once") (codes "load") _ _ refl (sym h.operands ∙ i.operands))
one_asked o gs (plan.Once s) (plan.Query t) h i = absurd (other_named (codes "once") (codes "query") _ _ refl (sym h.operands ∙ i.operands))
one_asked o gs (plan.Once s) (plan.List t) h i = absurd (other_named (codes "once") (codes "list") _ _ refl (sym h.operands ∙ i.operands))
one_asked o gs (plan.Once s) (plan.Check t) h i = absurd (other_named (codes "once") (codes "check") _ _ refl (sym h.operands ∙ i.operands))
one_asked o gs (plan.Load s) (plan.Once t) h i = absurd (other_named (codes "load") (codes "once") _ _ refl (sym h.operands ∙ i.operands))
one_asked o gs (plan.Load s) (plan.Load t) h i =
    let folder : s.folder ≡ t.folder = one_operand (codes "load") _ _ (sym h.operands ∙ i.operands) in
    ap plan.Load (same_load o s t folder h.options.1 i.options.1 h.options.2 i.options.2)
one_asked o gs (plan.Load s) (plan.Query t) h i = absurd (other_named (codes "load") (codes "query") _ _ refl (sym h.operands ∙ i.operands))
one_asked o gs (plan.Load s) (plan.List t) h i = absurd (other_named (codes "load") (codes "list") _ _ refl (sym h.operands ∙ i.operands))
one_asked o gs (plan.Load s) (plan.Check t) h i = absurd (other_named (codes "load") (codes "check") _ _ refl (sym h.operands ∙ i.operands))
one_asked o gs (plan.Query s) (plan.Once t) h i = absurd (other_named (codes "query") (codes "once") _ _ refl (sym h.operands ∙ i.operands))
one_asked o gs (plan.Query s) (plan.Load t) h i = absurd (other_named (codes "query") (codes "load") _ _ refl (sym h.operands ∙ i.operands))
one_asked o gs (plan.Query s) (plan.Query t) h i =
    let (folder, query) = two_operands (codes "query") _ _ _ _ (sym h.operands ∙ i.operands) in
    ap plan.Query (same_query o s t folder query h.options.0 i.options.0)
one_asked o gs (plan.Query s) (plan.List t) h i = absurd (other_named (codes "query") (codes "list") _ _ refl (sym h.operands ∙ i.operands))
one_asked o gs (plan.Query s) (plan.Check t) h i = absurd (other_named (codes "query") (codes "check") _ _ refl (sym h.operands ∙ i.operands))
one_asked o gs (plan.List s) (plan.Once t) h i = absurd (other_named (codes "list") (codes "once") _ _ refl (sym h.operands ∙ i.operands))
one_asked o gs (plan.List s) (plan.Load t) h i = absurd (other_named (codes "list") (codes "load") _ _ refl (sym h.operands ∙ i.operands))
one_asked o gs (plan.List s) (plan.Query t) h i = absurd (other_named (codes "list") (codes "query") _ _ refl (sym h.operands ∙ i.operands))
one_asked o gs (plan.List s) (plan.List t) h i =
    let folder : s.folder ≡ t.folder = one_operand (codes "list") _ _ (sym h.operands ∙ i.operands) in
    ap plan.List (same_spool s t folder)
one_asked o gs (plan.List s) (plan.Check t) h i = absurd (other_named (codes "list") (codes "check") _ _ refl (sym h.operands ∙ i.operands))
one_asked o gs (plan.Check s) (plan.Once t) h i = absurd (other_named (codes "check") (codes "once") _ _ refl (sym h.operands ∙ i.operands))
one_asked o gs (plan.Check s) (plan.Load t) h i = absurd (other_named (codes "check") (codes "load") _ _ refl (sym h.operands ∙ i.operands))
one_asked o gs (plan.Check s) (plan.Query t) h i = absurd (other_named (codes "check") (codes "query") _ _ refl (sym h.operands ∙ i.operands))
one_asked o gs (plan.Check s) (plan.List t) h i = absurd (other_named (codes "check") (codes "list") _ _ refl (sym h.operands ∙ i.operands))
one_asked o gs (plan.Check s) (plan.Check t) h i =
    let folder : s.folder ≡ t.folder = one_operand (codes "check") _ _ (sym h.operands ∙ i.operands) in
    ap plan.Check (same_spool s t folder)
one_asked o gs (plan.Once s) (plan.Drill t) h i = absurd (other_named (codes "once") (codes "drill") _ _ refl (sym h.operands ∙ i.operands.1))
one_asked o gs (plan.Load s) (plan.Drill t) h i = absurd (other_named (codes "load") (codes "drill") _ _ refl (sym h.operands ∙ i.operands.1))
one_asked o gs (plan.Query s) (plan.Drill t) h i = absurd (other_named (codes "query") (codes "drill") _ _ refl (sym h.operands ∙ i.operands.1))
one_asked o gs (plan.List s) (plan.Drill t) h i = absurd (other_named (codes "list") (codes "drill") _ _ refl (sym h.operands ∙ i.operands.1))
one_asked o gs (plan.Check s) (plan.Drill t) h i = absurd (other_named (codes "check") (codes "drill") _ _ refl (sym h.operands ∙ i.operands.1))
one_asked o gs (plan.Drill s) (plan.Once t) h i = absurd (other_named (codes "drill") (codes "once") _ _ refl (sym h.operands.1 ∙ i.operands))
one_asked o gs (plan.Drill s) (plan.Load t) h i = absurd (other_named (codes "drill") (codes "load") _ _ refl (sym h.operands.1 ∙ i.operands))
one_asked o gs (plan.Drill s) (plan.Query t) h i = absurd (other_named (codes "drill") (codes "query") _ _ refl (sym h.operands.1 ∙ i.operands))
one_asked o gs (plan.Drill s) (plan.List t) h i = absurd (other_named (codes "drill") (codes "list") _ _ refl (sym h.operands.1 ∙ i.operands))
one_asked o gs (plan.Drill s) (plan.Check t) h i = absurd (other_named (codes "drill") (codes "check") _ _ refl (sym h.operands.1 ∙ i.operands))
one_asked o gs (plan.Drill s) (plan.Drill t) h i =
    let (folder, word) = two_operands (codes "drill") _ _ _ _ (sym h.operands.1 ∙ i.operands.1) in
    ap plan.Drill (same_drill s t folder (same_count h.operands.0 i.operands.0 s.packets t.packets word h.operands.2 i.operands.2))

pub one_plan : (words : List Text) (p q : Plan) → IsPlan words p → IsPlan words q → p ≡ q
one_plan words p q (o, gs, a, h) (r, hs, b, i) =
    let (options, operands) = one_reading words r o hs gs b a in
    one_asked o gs p q h (subst (λ t. Asks t gs q) options (subst (λ t. Asks r t q) operands i))
