-- What a draft keeps.
use Rattle.std.proofs.Common.{◌≡◌, ◌<◌, ℕ, ◌+◌, List, [], ◌∷◌, Bool, true, false, ◌||◌, not, ◌==◌, cond, length, Result, Ok, Err, OnOk, arith, refl, sym, ap, ◌∙◌}
use Rattle.stp_topology.specs.declared.network.Network.{Network}
use Rattle.nsi_primitive.specs.declared.ask.Ask.{Ask}
use Rattle.nsi_script.specs.declared.fault.ScriptFault.{ScriptFault}
use Rattle.nsi_script.specs.declared.form.Sort.TheVariants.{OneRequester}
use Rattle.nsi_script.specs.declared.script.Act.{Act}
use Rattle.nsi_script.specs.declared.script.Group.{Group}
use Rattle.nsi_script.specs.declared.script.Script.{Script}
use Rattle.nsi_script.specs.Faults.{demand}
use Rattle.nsi_script.specs.Lines.{known_agent, put_ask, ask_of}
use Rattle.nsi_script.specs.Scripts.{asks_of, is_ask, is_reserved, reserves, with_act}
use Rattle.nsi_script.specs.Words.{name_form, ask_form}
use Rattle.nsi_script.proofs.ActLemmas.{reserved_push, asks_push}

-- what follows where a call was Ok
pub on_ok : {T E : Type 0} {P Q : Type 0} (r : Result T E) → (P → Q) → OnOk r P → OnOk r Q
on_ok (Ok x) f p = f p
on_ok (Err e) f p = p

pub demanded : (b : Bool) (fault : ScriptFault) → demand b fault ≡ Ok b → b ≡ true
demanded true fault e = refl
demanded false fault e = absurd (cc)

pub begun : (groups : List Group) (is_begun : Bool) (fault : ScriptFault) → is_begun ≡ not (length groups == 0) → demand is_begun fault ≡ Ok is_begun → 0 < length groups
begun [] is_begun fault is e = let holds = demanded is_begun fault e in absurd (cc)
begun (g ∷ gs) is_begun fault is e = omega arith

reserves_nothing : (act : Act) → is_ask act ≡ false → (agent : ℕ) (label : List ℕ) → reserves agent label act ≡ false
reserves_nothing (Act.Ask own ask) h agent label = absurd (cc)
reserves_nothing (Act.Force own number) h agent label = refl
reserves_nothing (Act.Restart own) h agent label = refl

-- an act that is no ask
pub reserved_plain : (old new : List Group) (act : Act) → 0 < length old → is_ask act ≡ false → new ≡ with_act old act → (agent : ℕ) (label : List ℕ) → is_reserved old agent label ≡ is_reserved new agent label
reserved_plain old new act l h is agent label =
    sym (ap (λ gs. is_reserved gs agent label) is
    ∙ (reserved_push old act l agent label
    ∙ ap (λ b. b || is_reserved old agent label) (reserves_nothing act h agent label)))

pub asks_plain : (old new : List Group) (act : Act) → 0 < length old → is_ask act ≡ false → new ≡ with_act old act → asks_of old ≡ asks_of new
asks_plain old new act l h is =
    let none : cond (is_ask act) 1 0 ≡ 0 = ap (λ b. cond {A = ℕ} b 1 0) h in
    let more : asks_of new ≡ asks_of old + cond (is_ask act) 1 0 = ap asks_of is ∙ asks_push old act l in
    omega (arith, none, more)

-- an ask whose words and agent are right
pub ask_line : (t : Network) (s : Script) (requester : List ℕ) (words : List (List ℕ)) (name : List ℕ) (ask : Ask) (agent : ℕ)
    → name_form requester ≡ Ok name → ask_form words ≡ Ok ask
    → known_agent t OneRequester name ≡ Ok agent → ask_of t s requester words ≡ put_ask s agent ask
unfolding ask_of
ask_line t s requester words name ask agent n a k = rw n (rw a (rw k refl))
