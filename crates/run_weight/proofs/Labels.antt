-- An ask of a script comes to no more agents than its label is worth.
use Rattle.std.proofs.Common.{◌≡◌, ◌≤◌, ◌==◌, ◌&&◌, ◌∙◌, ◌⊎◌, inl, inr, ℕ, Bool, true, cond, List, [], ◌∷◌, ◌++◌, Option, Some, refl, sym, ap, subst, arith, max, map, get_or, bytes_eq}
use Rattle.std.specs.List.{Contains, fold}
use Rattle.std.proofs.lemmas.Slice.Eq.{bytes_eq-Decides}
use Rattle.std.proofs.lemmas.List.Elements.{Contains-append_cases, Contains-append_left}
use Rattle.nsi_primitive.specs.declared.ask.Ask.{Ask}
use Rattle.nsi_primitive.specs.declared.ask.ReserveAsk.{ReserveAsk}
use Rattle.nsi_primitive.specs.declared.ask.What.{What}
use Rattle.stp_topology.specs.Rank.{greatest}
use Rattle.stp_topology.specs.declared.network.Network.{Network}
use Rattle.requester_agent.specs.Setting.{setting_of}
use Rattle.nsi_agent.specs.Homes.{Routes}
use Rattle.nsi_script.specs.Scripts.{acts_of, has_label}
use Rattle.nsi_script.specs.declared.script.Act.{Act}
use Rattle.nsi_script.specs.declared.script.Group.{Group}
use Rattle.way_reach.specs.Reach.{reach}
use Rattle.run_requests.specs.Requests.{IsWorthOf}
use Rattle.run_weight.specs.Weight.{reserve_reach, label_reach, label_most}

---- The greatest of some numbers

max_left : (m n : ℕ) → m ≤ max m n
max_left m n = grind arith

max_right : (m n : ℕ) → n ≤ max m n
max_right m n = grind arith

from_first : (m : ℕ) (ns : List ℕ) → m ≤ fold max m ns
from_first m [] = omega arith
from_first m (n ∷ ns) = omega (arith, max_left m n, from_first (max m n) ns)

one_of_one : {X : Type 0} (f : X → ℕ) (y x : X) → Contains (y ∷ []) x → f x ≡ f y
one_of_one f y x (k, l, e) = let z : k ≡ 0 = omega (arith, l) in sym (ap f (subst (λ n. get_or (y ∷ []) n x ≡ x) z e))

in_fold : {X : Type 0} (f : X → ℕ) (m : ℕ) (xs : List X) (x : X) → Contains xs x → f x ≤ fold max m (map f xs)
in_fold f m [] x (k, l, e) = absurd (omega (arith, l))
in_fold f m (y ∷ ys) x c = by (Contains-append_cases (y ∷ []) ys x c) (in_fold f (max m (f y)) ys x)
  where
    by : Contains (y ∷ []) x ⊎ Contains ys x → (Contains ys x → f x ≤ fold max (max m (f y)) (map f ys)) → f x ≤ fold max (max m (f y)) (map f ys)
    by (inl h) rest = omega (arith, max_right m (f y), from_first (max m (f y)) (map f ys), one_of_one f y x h)
    by (inr t) rest = rest t

pub in_greatest : {X : Type 0} (f : X → ℕ) (xs : List X) (x : X) → Contains xs x → f x ≤ greatest (map f xs)
in_greatest f xs x c = in_fold f 0 xs x c

---- Labels

same_number : (a : ℕ) → (a == a) ≡ true
same_number a = grind arith

same_label : (label : List ℕ) → bytes_eq label label ≡ true
same_label label = (bytes_eq-Decides label label).1 refl

reach_is : (t : Network) (routes : Routes) (a : ℕ) (ask : Ask) (label : List ℕ) (q : ReserveAsk) → ask.label ≡ Some label → ask.what ≡ What.Reserve q →
    label_reach t routes a label (Act.Ask a ask) ≡ reach t routes (record { child = (setting_of t a).provider; source = q.source; dest = q.dest })
reach_is t routes a ask label q under what =
    ap (λ (b : Bool). cond (b && has_label label ask.label) (reserve_reach t routes a ask.what) 0) (same_number a)
    ∙ (ap (λ (o : Option (List ℕ)). cond (has_label label o) (reserve_reach t routes a ask.what) 0) under
    ∙ (ap (λ (b : Bool). cond b (reserve_reach t routes a ask.what) 0) (same_label label)
    ∙ ap (reserve_reach t routes a) what))

-- the labels of a script are worth what its first groups ask
pub labels_fit : (t : Network) (routes : Routes) (part whole : List Group) (more : List Act) → acts_of whole ≡ acts_of part ++ more → IsWorthOf t routes part (label_most t routes whole)
labels_fit t routes part whole more e = record {
  something = λ a. omega arith;
  reserves = λ a ask label q c under what.
      let there : Contains (acts_of whole) (Act.Ask a ask) = subst (λ (xs : List Act). Contains xs (Act.Ask a ask)) (sym e) (Contains-append_left (acts_of part) more (Act.Ask a ask) c) in
      omega (arith, in_greatest (label_reach t routes a label) (acts_of whole) (Act.Ask a ask) there, reach_is t routes a ask label q under what);
}
