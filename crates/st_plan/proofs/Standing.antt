-- The second operand of a line stands somewhere among the arguments.
use Rattle.std.proofs.Common.{◌≡◌, ℕ, Bool, true, false, Result, IfOk, map, String, Global, string_bytes, option_map, get_or, nat_eq, MatchOption, suc, ◌+◌, ◌<◌, List, [], ◌∷◌, ◌++◌, Option, Some, None, refl, sym, ap, ◌∙◌, subst, arith, length, take, slice_get, codes, append_assoc, append-nil}
use Rattle.std.specs.Bool.{Decides}
use Rattle.std.specs.Str.{bytes_eq}
use Rattle.std.proofs.lemmas.Bool.{false≢true}
use Rattle.std.proofs.lemmas.Bool.Decides.{Decides-eqb}
use Rattle.std.proofs.lemmas.List.{take-map, length-map}
use Rattle.std.proofs.lemmas.Option.{slice_get-map, slice_get_read}
use Rattle.std.proofs.lemmas.Slice.Eq.{bytes_eq-Decides}
use Rattle.std.proofs.lemmas.Result.{IfOk-weaker}
use Rattle.clap.specs.Words.{Text}
use Rattle.st_plan.specs.Line.{name_of, long_name, name_and_value, Options, with_value, Line, nothing, rest, word, ns, value, joined, no_options}
use Rattle.st_plan.specs.Line as line
use Rattle.clap.specs.declared.parser.matches.Found.{Found}
use Rattle.st_plan.specs.Found.{IsTaken, IsNoLine, options_of, operands_of}
use Rattle.st_plan.specs.Places.{HasOperands, IsSecondAt, IsSecond, IsFolderAt}
use Rattle.st_plan.specs.Plans.{IsPlan, AreOperands, folder_of}
use Rattle.st_plan.proofs.OnePlan.{one_plan}
use Rattle.st_plan.specs.declared.jobs.Plan.{Plan}
use Rattle.st_plan.specs.declared.jobs.Plan.TheVariants as plan

-- behind these operands, the arguments have the operand at this place, and it is the second
record Stands (c f : Text) (o : Options) (gs ws : List Text) : Type 0 where
  pub place : ℕ
  pub below : place < length ws
  pub is : slice_get ws place ≡ Some f
  pub before : (p : Options) × Line o gs (take place ws) p (c ∷ [])
  pub both : (p : Options) × Line o gs (take (suc place) ws) p (c ∷ (f ∷ []))

-- operands stay
begins : (o p : Options) (gs ws hs : List Text) → Line o gs ws p hs → (more : List Text) × (hs ≡ gs ++ more)
begins o p gs ws hs nothing = ([], sym (append-nil gs))
begins o p gs us hs (rest {ws = ws} is) = (ws, is)
begins o p gs us hs (word {ws = ws} {w = w} plain line) =
    let (more, e) = begins o p (gs ++ w ∷ []) ws hs line in
    (w ∷ more, e ∙ append_assoc gs (w ∷ []) more)
begins o p gs us hs (ns {ws = ws} first line) = begins (record o { ns = true }) p gs ws hs line
begins o p gs us hs (value {ws = ws} x v first plain line) = begins (with_value o x v) p gs ws hs line
begins o p gs us hs (joined {ws = ws} x v first line) = begins (with_value o x v) p gs ws hs line

-- so it is behind one more argument, and behind two
behind : (c f w : Text) (o q : Options) (gs ks ws : List Text) → ((p : Options) (us hs : List Text) → Line q ks us p hs → Line o gs (w ∷ us) p hs) → Stands c f q ks ws → Stands c f o gs (w ∷ ws)
behind c f w o q gs ks ws step s = record {
  place = suc s.place;
  below = omega (arith, s.below);
  is = s.is;
  before = let (p, line) = s.before in (p, step p _ _ line);
  both = let (p, line) = s.both in (p, step p _ _ line);
}

behind_two : (c f w v : Text) (o q : Options) (gs ws : List Text) → ((p : Options) (us hs : List Text) → Line q gs us p hs → Line o gs (w ∷ (v ∷ us)) p hs) → Stands c f q gs ws → Stands c f o gs (w ∷ (v ∷ ws))
behind_two c f w v o q gs ws step s = record {
  place = suc (suc s.place);
  below = omega (arith, s.below);
  is = s.is;
  before = let (p, line) = s.before in (p, step p _ _ line);
  both = let (p, line) = s.both in (p, step p _ _ line);
}

-- after `--`
one_left : (c f : Text) (o : Options) (gs ws more : List Text) → gs ≡ c ∷ [] → ws ≡ f ∷ more → Stands c f o gs (codes "--" ∷ ws)
one_left c f o gs ws more one is = subst (λ us. Stands c f o gs (codes "--" ∷ us)) (sym is) (record {
  place = 1;
  below = omega arith;
  is = refl;
  before = (o, line.rest (sym one ∙ sym (append-nil gs)));
  both = (o, line.rest (sym (ap (λ (hs : List Text). hs ++ f ∷ []) one)));
})

two_left : (c f : Text) (o : Options) (gs ws more : List Text) → gs ≡ [] → ws ≡ c ∷ (f ∷ more) → Stands c f o gs (codes "--" ∷ ws)
two_left c f o gs ws more none is = subst (λ us. Stands c f o gs (codes "--" ∷ us)) (sym is) (record {
  place = 2;
  below = omega arith;
  is = refl;
  before = (o, line.rest (sym (ap (λ (hs : List Text). hs ++ c ∷ []) none)));
  both = (o, line.rest (sym (ap (λ (hs : List Text). hs ++ c ∷ (f ∷ [])) none)));
})

short_of_two : (c f : Text) (more gs : List Text) → gs ≡ c ∷ [] → gs ≡ c ∷ (f ∷ more) → ⊥
short_of_two c f more gs h k = omega (arith, ap length (sym h ∙ k))

short_of_one : (c : Text) (more gs : List Text) → gs ≡ [] → gs ≡ c ∷ more → ⊥
short_of_one c more gs h k = omega (arith, ap length (sym h ∙ k))

next_is : (c f w : Text) (more left : List Text) → (c ∷ (w ∷ [])) ++ left ≡ c ∷ (f ∷ more) → w ≡ f
next_is c f w more left h = cc

first_is : (c w : Text) (more left : List Text) → (w ∷ []) ++ left ≡ c ∷ more → w ≡ c
first_is c w more left h = cc

tail_is : (c f : Text) (more ws : List Text) → (c ∷ []) ++ ws ≡ c ∷ (f ∷ more) → ws ≡ f ∷ more
tail_is c f more ws h = cc

-- behind the command
second : (o p : Options) (gs ws hs more : List Text) (c f : Text) → Line o gs ws p hs → gs ≡ c ∷ [] → hs ≡ c ∷ (f ∷ more) → Stands c f o gs ws
second o p gs ws hs more c f nothing one all = absurd (short_of_two c f more gs one all)
second o p gs us hs more c f (rest {ws = ws} is) one all = one_left c f o gs ws more one (tail_is c f more ws (sym (ap (λ (ks : List Text). ks ++ ws) one) ∙ sym is ∙ all))
second o p gs us hs more c f (word {ws = ws} {w = w} plain line) one all =
    let (left, e) = begins o p (gs ++ w ∷ []) ws hs line in
    let two : gs ++ w ∷ [] ≡ c ∷ (w ∷ []) = ap (λ (ks : List Text). ks ++ w ∷ []) one in
    let is : w ≡ f = next_is c f w more left (sym (ap (λ (ks : List Text). ks ++ left) two) ∙ sym e ∙ all) in
    record {
      place = 0;
      below = omega arith;
      is = ap Some is;
      before = (o, subst (λ ks. Line o gs [] o ks) one nothing);
      both = (o, word plain (subst (λ ks. Line o (gs ++ w ∷ []) [] o ks) (two ∙ ap (λ (t : Text). c ∷ (t ∷ [])) is) nothing));
    }
second o p gs us hs more c f (ns {ws = ws} first line) one all = behind c f (codes "--ns") o (record o { ns = true }) gs gs ws (λ q us ks made. ns first made) (second (record o { ns = true }) p gs ws hs more c f line one all)
second o p gs us hs more c f (value {ws = ws} x v first plain line) one all =
    behind_two c f (long_name x) v o (with_value o x v) gs ws (λ q us ks made. value x v first plain made) (second (with_value o x v) p gs ws hs more c f line one all)
second o p gs us hs more c f (joined {ws = ws} x v first line) one all =
    behind c f (name_and_value x v) o (with_value o x v) gs gs ws (λ q us ks made. joined x v first made) (second (with_value o x v) p gs ws hs more c f line one all)

-- from the first argument on
first_two : (o p : Options) (gs ws hs more : List Text) (c f : Text) → Line o gs ws p hs → gs ≡ [] → hs ≡ c ∷ (f ∷ more) → Stands c f o gs ws
first_two o p gs ws hs more c f nothing none all = absurd (short_of_one c (f ∷ more) gs none all)
first_two o p gs us hs more c f (rest {ws = ws} is) none all = two_left c f o gs ws more none (sym (ap (λ (ks : List Text). ks ++ ws) none) ∙ sym is ∙ all)
first_two o p gs us hs more c f (word {ws = ws} {w = w} plain line) none all =
    let (left, e) = begins o p (gs ++ w ∷ []) ws hs line in
    let one : gs ++ w ∷ [] ≡ w ∷ [] = ap (λ (ks : List Text). ks ++ w ∷ []) none in
    let is : w ≡ c = first_is c w (f ∷ more) left (sym (ap (λ (ks : List Text). ks ++ left) one) ∙ sym e ∙ all) in
    behind c f w o o gs (gs ++ w ∷ []) ws (λ q us ks made. word plain made) (second o p (gs ++ w ∷ []) ws hs more c f line (one ∙ ap (λ (t : Text). t ∷ []) is) all)
first_two o p gs us hs more c f (ns {ws = ws} first line) none all = behind c f (codes "--ns") o (record o { ns = true }) gs gs ws (λ q us ks made. ns first made) (first_two (record o { ns = true }) p gs ws hs more c f line none all)
first_two o p gs us hs more c f (value {ws = ws} x v first plain line) none all =
    behind_two c f (long_name x) v o (with_value o x v) gs ws (λ q us ks made. value x v first plain made) (first_two (with_value o x v) p gs ws hs more c f line none all)
first_two o p gs us hs more c f (joined {ws = ws} x v first line) none all =
    behind c f (name_and_value x v) o (with_value o x v) gs gs ws (λ q us ks made. joined x v first made) (first_two (with_value o x v) p gs ws hs more c f line none all)

-- the folder of a plan is the second of its operands
folder_second : (gs : List Text) (p : Plan) (f : Text) → AreOperands gs p → folder_of p ≡ Some f → (c : Text) × (more : List Text) × (gs ≡ c ∷ (f ∷ more))
folder_second gs (plan.Once job) f a h = absurd cc
folder_second gs (plan.Load load) f a h = let is : load.folder ≡ f = cc in (codes "load", [], a ∙ ap (λ (t : Text). codes "load" ∷ (t ∷ [])) is)
folder_second gs (plan.Query query) f a h = let is : query.folder ≡ f = cc in (codes "query", query.job.query ∷ [], a ∙ ap (λ (t : Text). codes "query" ∷ (t ∷ (query.job.query ∷ []))) is)
folder_second gs (plan.List spool) f a h = let is : spool.folder ≡ f = cc in (codes "list", [], a ∙ ap (λ (t : Text). codes "list" ∷ (t ∷ [])) is)
folder_second gs (plan.Check spool) f a h = let is : spool.folder ≡ f = cc in (codes "check", [], a ∙ ap (λ (t : Text). codes "check" ∷ (t ∷ [])) is)
folder_second gs (plan.Drill drill) f (given, a, count) h =
    let is : drill.folder ≡ f = cc in (codes "drill", given ∷ [], a ∙ ap (λ (t : Text). codes "drill" ∷ (t ∷ (given ∷ []))) is)

-- it stands somewhere
pub folder_stands : (words : List Text) (p : Plan) (f : Text) → IsPlan words p → folder_of p ≡ Some f → (i : ℕ) × (i < length words) × IsSecondAt words i f
folder_stands words p f (o, gs, made, asks) named =
    let (c, more, is) = folder_second gs p f asks.operands named in
    let s = first_two no_options o [] words gs more c f made refl is in
    let (q, before) = s.before in
    let (r, both) = s.both in
    let next : suc s.place ≡ s.place + 1 = omega arith in (
      s.place,
      s.below,
      record {
        is = s.is;
        before = (q, c ∷ [], before, refl);
        both = (r, c ∷ (f ∷ []), subst (λ n. Line no_options [] (take n words) r (c ∷ (f ∷ []))) next both, refl);
      },
    )

-- a place is the second operand's where each part of that holds

pub not_there : (words : List Text) (i : ℕ) (operand : Text) (b : Bool) → Decides b (slice_get words i ≡ Some operand) → b ≡ false → Decides false (IsSecondAt words i operand)
not_there words i operand b d e = (λ bad. absurd (false≢true bad), λ s. absurd (false≢true (sym e ∙ d.1 s.is)))

pub none_before : (words : List Text) (i : ℕ) (operand : Text) (b : Bool) → Decides b (HasOperands (take i words) 1) → b ≡ false → Decides false (IsSecondAt words i operand)
none_before words i operand b d e = (λ bad. absurd (false≢true bad), λ s. absurd (false≢true (sym e ∙ d.1 s.before)))

pub both_hold : {E : Type 0} (words : List Text) (i : ℕ) (operand : Text) (a b : Bool) (r : Result Bool E) → Decides a (slice_get words i ≡ Some operand) → a ≡ true → Decides b (HasOperands (take i words) 1) → b ≡ true
    → IfOk r (λ x. Decides x (HasOperands (take (i + 1) words) 2)) → IfOk r (λ x. Decides x (IsSecondAt words i operand))
both_hold words i operand a b r d e k f h = IfOk-weaker r _ _ (λ x t. (λ yes. record { is = d.0 e; before = k.0 f; both = t.0 yes }, λ s. t.1 s.both)) h

-- the first arguments
pub front_words : (n : ℕ) (words : List (String Global)) → map string_bytes (take n words) ≡ take n (map string_bytes words)
front_words n words = sym (take-map string_bytes n words)

pub count_taken : (words front : List Text) (f : Found) (n count : ℕ) → front ≡ words → IsTaken front f → n ≡ length (operands_of f) → Decides (nat_eq n count) (HasOperands words count)
count_taken words front f n count same t is = (
  λ yes. (options_of f, operands_of f, subst (λ ws. Line no_options [] ws (options_of f) (operands_of f)) same t.line, sym is ∙ (Decides-eqb n count).0 yes),
  λ (o, gs, made, long).
      let read = t.only o gs (subst (λ ws. Line no_options [] ws o gs) (sym same) made) in
      (Decides-eqb n count).1 (is ∙ sym (ap length read.1) ∙ long),
)

pub count_none : (words front : List Text) (count : ℕ) → front ≡ words → IsNoLine front → Decides false (HasOperands words count)
count_none words front count same none = (λ bad. absurd (false≢true bad), λ (o, gs, made, long). absurd (none o gs (subst (λ ws. Line no_options [] ws o gs) (sym same) made)))

same_text : (s t : Text) → Some s ≡ Some t → s ≡ t
same_text s t h = cc

pub at_place : (words : List (String Global)) (i : ℕ) (s : String Global) (argument : Text) (b : Bool) → i < length words → s ≡ get_or words i s → b ≡ bytes_eq (string_bytes s) argument
    → Decides b (slice_get (map string_bytes words) i ≡ Some argument)
at_place words i s argument b below read e =
    let here : slice_get (map string_bytes words) i ≡ Some (string_bytes s) = slice_get-map string_bytes words i ∙ ap (option_map string_bytes) (slice_get_read words (length words) i s refl below read) in (
      λ yes. here ∙ ap Some ((bytes_eq-Decides (string_bytes s) argument).0 (sym e ∙ yes)),
      λ is. e ∙ (bytes_eq-Decides (string_bytes s) argument).1 (same_text (string_bytes s) argument (sym here ∙ is)),
    )

-- the folder of a plan stands where it was found, and where none was there is no plan with a folder

place_found : (words : List (String Global)) (p : Plan) (f : Text) (found : Option ℕ) → IsPlan (map string_bytes words) p → folder_of p ≡ Some f
    → MatchOption found ((i : ℕ) → i < length words → IsSecondAt (map string_bytes words) i f → ⊥) (λ i. IsSecond (map string_bytes words) i f)
    → MatchOption found ((q : Plan) → IsPlan (map string_bytes words) q → folder_of q ≡ None) (λ i. IsFolderAt (map string_bytes words) i)
place_found words p f None is named none =
    let (i, below, at) = folder_stands (map string_bytes words) p f is named in
    absurd (none i (subst (λ n. i < n) (length-map words string_bytes) below) at)
place_found words p f (Some i) is named at = record { plan = p; is = is; folder = f; named = named; place = at }

pub folder_found : {E : Type 0} (words : List (String Global)) (p : Plan) (f : Text) (r : Result (Option ℕ) E) → IsPlan (map string_bytes words) p → folder_of p ≡ Some f
    → IfOk r (λ found. MatchOption found ((i : ℕ) → i < length words → IsSecondAt (map string_bytes words) i f → ⊥) (λ i. IsSecond (map string_bytes words) i f))
    → IfOk r (λ found. MatchOption found ((q : Plan) → IsPlan (map string_bytes words) q → folder_of q ≡ None) (λ i. IsFolderAt (map string_bytes words) i))
folder_found words p f r is named h = IfOk-weaker r _ _ (λ found at. place_found words p f found is named at) h

pub no_folder : (words : List Text) (p : Plan) → IsPlan words p → folder_of p ≡ None → (q : Plan) → IsPlan words q → folder_of q ≡ None
no_folder words p is none q asked = ap folder_of (one_plan words q p asked is) ∙ none
