-- Lines that may stand in a race make the script of one.
use Rattle.std.proofs.Common.{◌≡◌, ◌≤◌, ℕ, ◌+◌, List, [], ◌∷◌, ◌++◌, Bool, true, false, All, length, refl, sym, ◌∙◌, ap, subst, arith, Option, Some, None, Result, Ok, Err}
use Rattle.std.specs.Prelude.{◌&&◌, ◌||◌, ◌==◌, not, codes, if◌then◌else◌, nat_le, IfOk}
use Rattle.std.specs.Str.{bytes_eq}
use Rattle.std.proofs.lemmas.List.{append-nil}
use Rattle.std.proofs.lemmas.List.Elements.{All-nil, All-push, All-weaker}
use Rattle.nsi_base.specs.Bytes.{is_name}
use Rattle.nsi_base.specs.Words.{words_of}
use Rattle.nsi_base.specs.declared.words.Blanks.TheVariants.{SpaceOrTab}
use Rattle.nsi_primitive.specs.declared.ask.Ask.{Ask}
use Rattle.stp_topology.specs.declared.network.Network.{Network}
use Rattle.stp_topology.specs.Network.{agent_of, kind_of}
use Rattle.nsi_script.specs.declared.fault.ScriptFault.{ScriptFault}
use Rattle.nsi_script.specs.declared.fault.ScriptFault.TheVariants as faults
use Rattle.nsi_script.specs.declared.form.Sort.TheVariants as sorts
use Rattle.nsi_script.specs.declared.script.Act.{Act}
use Rattle.nsi_script.specs.declared.script.Group.{Group}
use Rattle.nsi_script.specs.declared.script.Script.{Script}
use Rattle.nsi_script.specs.Faults.{◌>>=◌, value_or, demand}
use Rattle.nsi_script.specs.Fits.{Fits, IsActOf}
use Rattle.nsi_script.specs.Lines.{add_at, put_ask, ask_of, add_ask, add_force, add_restart, add_plan, add_stop, by_verb, line_of, known_agent, is_of, accepted, word}
use Rattle.nsi_script.specs.Scripts.{nothing, acts_of, group_at, with_act, last_second}
use Rattle.nsi_script.specs.declared.fault.ScriptRefusal.{ScriptRefusal}
use Rattle.agent_link.specs.declared.plan.How.TheVariants.{Lose, Repeat}
use Rattle.nsi_base.specs.Range.{greatest_second}
use Rattle.nsi_script.specs.Text.{is_skipped, of_line, onward, read_lines, script_of, Reads}
use Rattle.nsi_script.specs.Words.{name_form, ask_form, number_form}
use Rattle.nsi_base.specs.Lines.{lines_of}
use Rattle.race_run.specs.Found.{is_caller}
use Rattle.race_run.specs.Scripts.{IsAskOf, IsRace, IsPrintableAct, AreAsks}
use Rattle.race_command.specs.Lines.{names_caller, is_allowed, is_at, is_race_line, begins, first_strange}

-- a script as far as it is read
pub record IsDraft (t : Network) (p : ℕ) (begun : Bool) (s : Script) : Type 0 where
  pub none : begun ≡ false → s.groups ≡ []
  pub one : length s.groups ≤ 1
  pub asks : All (IsAskOf t p) (acts_of s.groups)

-- a step that ends with a value has one to go on from
bound : {A B : Type 0} (r : Result A ScriptFault) (f : A → Result B ScriptFault) (y : B) → (r >>= f) ≡ Ok y → (x : A) × (r ≡ Ok x) × (f x ≡ Ok y)
bound (Ok x) f y e = (x, refl, e)
bound (Err fault) f y e = absurd (cc)

abbrev ok_of : {A : Type 0} → A → Result A ScriptFault
ok_of x = Ok x

ok_one : {A : Type 0} (x y : A) → ok_of x ≡ ok_of y → x ≡ y
ok_one x y e = cc

all_with : (P : Act → Type 0) (groups : List Group) (act : Act) → length groups ≤ 1 → All P (acts_of groups) → P act → All P (acts_of (with_act groups act))
all_with P [] act few all is = All-nil P
all_with P (g ∷ []) act few all is = subst (All P) (sym (append-nil (g.acts ++ act ∷ []))) (All-push P g.acts act (subst (All P) (append-nil g.acts) all) is)
all_with P (g ∷ (h ∷ gs)) act few all is = absurd (omega arith)

length_with : (groups : List Group) (act : Act) → length (with_act groups act) ≡ length groups
length_with [] act = refl
length_with (g ∷ []) act = refl
length_with (g ∷ (h ∷ gs)) act = let e = length_with (h ∷ gs) act in omega (arith, e)

-- one ask more
with_ask : (t : Network) (p : ℕ) (begun : Bool) (s : Script) (act : Act) → IsAskOf t p act → IsDraft t p begun s → IsDraft t p begun (record s { groups = with_act s.groups act })
with_ask t p begun s act is d = record {
  none = λ e. ap (λ (gs : List Group). with_act gs act) (d.none e);
  one = subst (λ n. n ≤ 1) (sym (length_with s.groups act)) d.one;
  asks = all_with (IsAskOf t p) s.groups act d.one d.asks is;
}

-- the second of a script
with_group : (t : Network) (p : ℕ) (s : Script) (at : ℕ) → s.groups ≡ [] → IsDraft t p true (record s { groups = s.groups ++ group_at at ∷ [] })
with_group t p s at none = record {
  none = λ e. absurd (cc);
  one = rw none (omega arith);
  asks = rw none (All-nil (IsAskOf t p));
}

-- nothing is forgotten by a later `at`
weaker : (t : Network) (p : ℕ) (a b : Bool) (s : Script) → IsDraft t p a s → IsDraft t p (a || b) s
weaker t p true b s d = record { none = λ e. absurd (cc); one = d.one; asks = d.asks }
weaker t p false b s d = record { none = λ e. d.none refl; one = d.one; asks = d.asks }

name_of_form : (b : Bool) (w n : List ℕ) → (if b then ok_of w else Err faults.Word) ≡ ok_of n → n ≡ w
name_of_form true w n e = sym (ok_one w n e)
name_of_form false w n e = absurd (cc)

agent_of_form : (b : Bool) (x a : ℕ) → (if b then ok_of x else Err faults.Agent) ≡ ok_of a → x ≡ a
agent_of_form true x a e = ok_one x a e
agent_of_form false x a e = absurd (cc)

known_by : (t : Network) (a : ℕ) (o : Option ℕ) → (value_or faults.Agent o >>= (λ (b : ℕ). if is_of sorts.OneRequester (kind_of t b) then Ok b else Err faults.Agent)) ≡ Ok a → o ≡ Some a
known_by t a None e = absurd (cc)
known_by t a (Some b) e = ap (λ (n : ℕ). Some n) (agent_of_form (is_of sorts.OneRequester (kind_of t b)) b a e)

known_is : (t : Network) (name : List ℕ) (a : ℕ) → known_agent t sorts.OneRequester name ≡ Ok a → agent_of t name ≡ Some a
unfolding known_agent
known_is t name a e = known_by t a (agent_of t name) e

asked : (t : Network) (p : ℕ) (begun : Bool) (s u : Script) (requester : List ℕ) (words : List (List ℕ)) → ask_of t s requester words ≡ Ok u → is_caller t p (agent_of t requester) ≡ true → IsDraft t p begun s → IsDraft t p begun u
unfolding ask_of put_ask
asked t p begun s u requester words e may d =
    let named = bound (name_form requester) (λ (name : List ℕ). ask_form words >>= (λ (ask : Ask). known_agent t sorts.OneRequester name >>= (λ (agent : ℕ). put_ask s agent ask))) u e in
    let what = bound (ask_form words) (λ (ask : Ask). known_agent t sorts.OneRequester named.0 >>= (λ (agent : ℕ). put_ask s agent ask)) u named.2 in
    let agent = bound (known_agent t sorts.OneRequester named.0) (λ (agent : ℕ). put_ask s agent what.0) u what.2 in
    let few = bound (accepted s agent.0 what.0) (λ (few : Bool). Ok (record s { groups = with_act s.groups (Act.Ask agent.0 what.0) })) u agent.2 in
    let own : named.0 ≡ requester = name_of_form (is_name requester) requester named.0 named.1 in
    let is : agent_of t requester ≡ Some agent.0 = ap (agent_of t) (sym own) ∙ known_is t named.0 agent.0 agent.1 in
    subst (IsDraft t p begun) (ok_one (record s { groups = with_act s.groups (Act.Ask agent.0 what.0) }) u few.2)
    (with_ask t p begun s (Act.Ask agent.0 what.0) (ap (is_caller t p) (sym is) ∙ may) d)

begun_at : (t : Network) (p : ℕ) (s u : Script) (args : List (List ℕ)) → add_at s args ≡ Ok u → s.groups ≡ [] → IsDraft t p true u
unfolding add_at
begun_at t p s u args e none =
    let whole = bound (demand (length args == 1) faults.Word) (λ (w : Bool). number_form 0 greatest_second (word args 0) >>= (λ (at : ℕ). demand (nat_le (last_second s.groups) at) faults.Time >>= (λ (r : Bool). Ok (record s { groups = s.groups ++ group_at at ∷ [] })))) u e in
    let at = bound (number_form 0 greatest_second (word args 0)) (λ (at : ℕ). demand (nat_le (last_second s.groups) at) faults.Time >>= (λ (r : Bool). Ok (record s { groups = s.groups ++ group_at at ∷ [] }))) u whole.2 in
    let rising = bound (demand (nat_le (last_second s.groups) at.0) faults.Time) (λ (r : Bool). Ok (record s { groups = s.groups ++ group_at at.0 ∷ [] })) u at.2 in
    subst (IsDraft t p true) (ok_one (record s { groups = s.groups ++ group_at at.0 ∷ [] }) u rising.2) (with_group t p s at.0 none)

added : (t : Network) (p : ℕ) (begun : Bool) (s u : Script) (args : List (List ℕ)) → add_ask t s args ≡ Ok u → names_caller t p args ≡ true → IsDraft t p begun s → IsDraft t p begun u
added t p begun s u [] e may d = absurd (cc)
added t p begun s u (requester ∷ words) e may d = asked t p begun s u requester words e may d

-- what is no ask is an `at`, of which none came before
at_or_none : (t : Network) (p : ℕ) (begun is_at : Bool) (s u : Script) (args : List (List ℕ)) (other : Result Script ScriptFault) → (if is_at then add_at s args else other) ≡ Ok u → (is_at && not begun) ≡ true → IsDraft t p begun s → IsDraft t p (begun || is_at) u
at_or_none t p true true s u args other e may d = absurd (cc)
at_or_none t p false true s u args other e may d = begun_at t p s u args e (d.none refl)
at_or_none t p begun false s u args other e may d = absurd (cc)

verbs : (t : Network) (p : ℕ) (begun : Bool) (s u : Script) (verb : List ℕ) (args : List (List ℕ)) → by_verb t s verb args ≡ Ok u → is_allowed t p begun (verb ∷ args) ≡ true → IsDraft t p begun s → IsDraft t p (begun || is_at (verb ∷ args)) u
unfolding by_verb
verbs t p begun s u verb args e may d = go (bytes_eq verb (codes "ask")) e may
  where
    go : (is_ask : Bool)
        → (if is_ask then add_ask t s args
        else if bytes_eq verb (codes "at") then add_at s args
        else if bytes_eq verb (codes "force") then add_force t s args
        else if bytes_eq verb (codes "restart") then add_restart t s args
        else if bytes_eq verb (codes "lose") then add_plan t s Lose args
        else if bytes_eq verb (codes "repeat") then add_plan t s Repeat args
        else if bytes_eq verb (codes "stop") then add_stop t s args
        else Err faults.Word) ≡ Ok u
        → (if is_ask then names_caller t p args else bytes_eq verb (codes "at") && not begun) ≡ true → IsDraft t p (begun || is_at (verb ∷ args)) u
    go true e may = weaker t p begun (is_at (verb ∷ args)) u (added t p begun s u args e may d)
    go false e may = at_or_none t p begun (bytes_eq verb (codes "at")) s u args _ e may d

lines_words : (t : Network) (p : ℕ) (begun : Bool) (s u : Script) (words : List (List ℕ)) → line_of t s words ≡ Ok u → is_allowed t p begun words ≡ true → IsDraft t p begun s → IsDraft t p (begun || is_at words) u
lines_words t p begun s u [] e may d = absurd (cc)
lines_words t p begun s u (verb ∷ args) e may d = verbs t p begun s u verb args e may d

one_line : (t : Network) (p : ℕ) (begun : Bool) (s u : Script) (line : List ℕ) → of_line t s line ≡ Ok u → is_race_line t p begun line ≡ true → IsDraft t p begun s → IsDraft t p (begun || begins line) u
unfolding of_line
one_line t p begun s u line e may d = go (is_skipped line) e may
  where
    go : (skipped : Bool) → (if skipped then Ok s else line_of t s (words_of SpaceOrTab line)) ≡ Ok u → (skipped || is_allowed t p begun (words_of SpaceOrTab line)) ≡ true
        → IsDraft t p (begun || (not skipped && is_at (words_of SpaceOrTab line))) u
    go true e may = weaker t p begun false u (subst (IsDraft t p begun) (ok_one s u e) d)
    go false e may = lines_words t p begun s u (words_of SpaceOrTab line) e may d

abbrev read_as : Script → Result Script (ℕ × ScriptFault)
read_as s = Ok s

script_one : (x y : Script) → read_as x ≡ read_as y → x ≡ y
script_one x y e = cc

-- what is made of the lines behind a line
abbrev Behind : Network → ℕ → Bool → Script → ℕ → List (List ℕ) → Type 0
Behind t p begun u n lines = (new : Script) → first_strange t p begun n lines ≡ None → read_lines t new n lines ≡ Ok u → IsDraft t p begun new → (b : Bool) × IsDraft t p b u

by_line : (t : Network) (p : ℕ) (begun : Bool) (s u : Script) (n : ℕ) (line : List ℕ) (lines : List (List ℕ)) → Behind t p (begun || begins line) u (n + 1) lines → IsDraft t p begun s
    → (may : Bool) → is_race_line t p begun line ≡ may → (read : Result Script ScriptFault) → of_line t s line ≡ read
    → (if may then first_strange t p (begun || begins line) (n + 1) lines else Some n) ≡ None
    → onward n read (λ new. read_lines t new (n + 1) lines) ≡ Ok u → (b : Bool) × IsDraft t p b u
by_line t p begun s u n line lines behind d false may read is none e = absurd (cc)
by_line t p begun s u n line lines behind d true may (Err fault) is none e = absurd (cc)
by_line t p begun s u n line lines behind d true may (Ok new) is none e = behind new none e (one_line t p begun s new line is may d)

all_lines : (t : Network) (p : ℕ) (begun : Bool) (s u : Script) (n : ℕ) (lines : List (List ℕ)) → first_strange t p begun n lines ≡ None → read_lines t s n lines ≡ Ok u → IsDraft t p begun s → (b : Bool) × IsDraft t p b u
unfolding first_strange read_lines
all_lines t p begun s u n [] none e d = (begun, subst (IsDraft t p begun) (script_one s u e) d)
all_lines t p begun s u n (line ∷ lines) none e d =
    by_line t p begun s u n line lines (λ new none e d. all_lines t p (begun || begins line) new u (n + 1) lines none e d) d (is_race_line t p begun line) refl (of_line t s line) refl none e

-- a script without a line that may not stand there is one of a race
pub is_race : (t : Network) (p n : ℕ) (text : List ℕ) (read : Result Script ScriptRefusal) (strange : Option ℕ) → strange ≡ first_strange t p false n (lines_of text) → strange ≡ None → Reads read (script_of t n text) → IfOk read (λ s. Fits t s) → IfOk read (λ s. IsRace t p s)
is_race t p n text (Ok s) strange is none read fits =
    let d = all_lines t p false nothing s n (lines_of text) (sym is ∙ none) read (record { none = λ e. refl; one = omega arith; asks = All-nil (IsAskOf t p) }) in
    record { fits = fits; one = d.1.one; asks = d.1.asks }
is_race t p n text (Err refusal) strange is none read fits = tt

---- What is asked can be printed

printable_act : (t : Network) (x : Act) → IsActOf t x → IsPrintableAct x
printable_act t (Act.Ask agent ask) k = k.2
printable_act t (Act.Force agent number) k = tt
printable_act t (Act.Restart agent) k = tt

pub race_printable : (t : Network) (p : ℕ) (s : Script) → IsRace t p s → AreAsks (acts_of s.groups)
race_printable t p s h = All-weaker (IsActOf t) IsPrintableAct (printable_act t) (acts_of s.groups) h.fits.acts
