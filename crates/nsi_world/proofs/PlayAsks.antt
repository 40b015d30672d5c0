-- The play of a script asks the whole script.
use Rattle.std.proofs.Common.{ℕ, ◌+◌, ◌<◌, ◌≤◌, ◌≡◌, Bool, true, false, List, [], ◌∷◌, ◌++◌, inl, inr, sym, ap, ◌∙◌, subst, arith, length, get_or}
use Rattle.std.specs.List.{All, Contains, range_with_len}
use Rattle.std.proofs.lemmas.Bool.{cases_Bool}
use Rattle.std.proofs.lemmas.List.FromFn.{get_or-range_with_len, length-range_with_len}
use Rattle.std.proofs.lemmas.List.Elements.{All-head, All-tail, All-weaker, Contains-get_or}
use Rattle.stp_topology.specs.declared.network.Network.{Network}
use Rattle.nsi_script.specs.declared.script.Act.{Act}
use Rattle.nsi_script.specs.declared.script.Group.{Group}
use Rattle.agent_node.specs.Openings.{agents}
use Rattle.nsi_play.specs.Openings.{Plans, opening}
use Rattle.nsi_play.specs.Rounds.{Net}
use Rattle.nsi_play.specs.Play.{Played, asks_among, group, plays}
use Rattle.nsi_play.proofs.Settling.{plays_cons, plays_nil, then_over, then_stopped}
use Rattle.nsi_world.specs.Worlds.{Homes, World}
use Rattle.nsi_world.specs.Runs.{asks_of, Wish, numbered, world_after}
use Rattle.nsi_world.specs.Nets.{numbers, AllStand, NetGoesOn}
use Rattle.nsi_script.specs.Fits.{IsActOf}
use Rattle.nsi_world.specs.Scripts.{wishes_among, wishes_of}
use Rattle.nsi_world.proofs.ScriptLemmas.{RiseFrom, IsGroupOf, whole_none, whole_cons}
use Rattle.nsi_world.proofs.Given.{Given}
use Rattle.nsi_world.proofs.Opening.{numbers_of}
use Rattle.nsi_world.proofs.PlaySteps.{MayActAll, group_comes, stand_longer, first_second, rest_rise}
use Rattle.nsi_world.proofs.Asking.{IsHere, AreHere, asks_append, asks_none, numbered_append, numbered_none, among_count, group_asks}

-- what it has asked, of the whole
pub record PlayAsks (count : ℕ) (gs : List Group) (p : Played) : Type 0 where
  pub wishes : List Wish
  pub asked : asks_of p.events ≡ numbered count wishes
  pub whole : p.is_over ≡ true → wishes ≡ wishes_of gs

never : {X : Type 0} (b : Bool) → b ≡ false → b ≡ true → X
never b p q = absurd (cc)

pub plays_ask : (homes : Homes) → Given homes → (w : World) (most : ℕ) (gs : List Group) (count start : ℕ) (x : Net) → RiseFrom start gs → All (MayActAll homes) gs → All (AreHere (numbers x)) gs → AllStand homes start w x
    → PlayAsks count gs (plays most gs count homes x)
plays_ask homes given w most [] count start x rise may here h =
    subst (PlayAsks count []) (sym (plays_nil most count homes x)) (record { wishes = []; asked = asks_none ∙ sym (numbered_none count); whole = λ o. sym whole_none })
plays_ask homes given w most (g ∷ gs) count start x rise may here h =
    let le : start ≤ g.at = first_second start g gs rise in
    let p : Played = group most g count homes x in
    let n : ℕ = count + asks_among g.acts in
    let xs : List Wish = wishes_among g.acts in
    let a : NetGoesOn homes g.at w x p.events p.net = group_comes homes given w most g count x (All-head (MayActAll homes) g gs may) (stand_longer homes start g.at w x le h) in
    let own : asks_of p.events ≡ numbered count xs = group_asks homes most g count x (All-head (AreHere (numbers x)) g gs here) h.distinct h.told in
    let q = plays_ask homes given (world_after w p.events) most gs n g.at p.net (rest_rise start g gs rise) (All-tail (MayActAll homes) g gs may)
    (subst (λ ns. All (AreHere ns) gs) (sym a.numbers) (All-tail (AreHere (numbers x)) g gs here)) a.stand in
    let rest : Played = plays most gs n homes p.net in
    subst (PlayAsks count (g ∷ gs)) (sym (plays_cons most g gs count homes x)) (elim (cases_Bool p.is_over) [
      | inl o ↦ subst (PlayAsks count (g ∷ gs)) (sym (then_over p (plays most gs n homes) o)) (record {
        wishes = xs ++ q.wishes;
        asked = asks_append p.events rest.events
            ∙ (ap (λ ys. ys ++ asks_of rest.events) own
            ∙ (ap (λ ys. numbered count xs ++ ys) q.asked
            ∙ (ap (λ k. numbered count xs ++ numbered (count + k) q.wishes) (among_count g.acts) ∙ sym (numbered_append count xs q.wishes))));
        whole = λ e. ap (λ ys. xs ++ ys) (q.whole e) ∙ sym (whole_cons g gs);
      })
      | inr o ↦ subst (PlayAsks count (g ∷ gs)) (sym (then_stopped p (plays most gs n homes) o)) (record { wishes = xs; asked = own; whole = never p.is_over o })
    ])

---- Who is asked is there

pub range_here : (n a : ℕ) → a < n → Contains (range_with_len 0 n) a
range_here n a lt =
    let at : get_or (range_with_len 0 n) a a ≡ a = get_or-range_with_len 0 n a a lt ∙ same in
    let long = length-range_with_len 0 n in
    subst (Contains (range_with_len 0 n)) at (Contains-get_or (range_with_len 0 n) a a (omega (arith, lt, long)))
  where
    same : 0 + a ≡ a
    same = omega arith

agent_here : (t : Network) (plans : Plans) (a : ℕ) → a < length t.agents → Contains (numbers (opening t plans)) a
agent_here t plans a lt = subst (λ ns. Contains ns a) (sym (numbers_of t plans (agents t))) (range_here (length t.agents) a lt)

act_here : (t : Network) (plans : Plans) (act : Act) → IsActOf t act → IsHere (numbers (opening t plans)) act
act_here t plans (Act.Ask a ask) h = agent_here t plans a h.0
act_here t plans (Act.Force a n) h = tt
act_here t plans (Act.Restart a) h = tt

pub all_here : (t : Network) (plans : Plans) (gs : List Group) → All (IsGroupOf t) gs → All (AreHere (numbers (opening t plans))) gs
all_here t plans gs all = All-weaker (IsGroupOf t) (AreHere (numbers (opening t plans))) (λ g k. All-weaker (IsActOf t) (IsHere (numbers (opening t plans))) (act_here t plans) g.acts k) gs all
