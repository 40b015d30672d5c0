-- An agent's ends among all.
use Rattle.std.proofs.Common.{ℕ, ◌≡◌, ◌==◌, ◌&&◌, Bool, true, false, cond, List, [], ◌∷◌, ◌++◌, append_assoc, append-nil, Option, Some, None, refl, sym, ap, ap₂, ◌∙◌, subst, arith, length, length-append, eqb-true, ne_eqb}
use Rattle.std.specs.List.{All}
use Rattle.std.proofs.lemmas.List.{map_push}
use Rattle.std.proofs.lemmas.List.Elements.{All-nil, All-push, All-head, All-tail}
use Rattle.stp_topology.specs.declared.network.Network.{Network}
use Rattle.agent_link.specs.Link.{Half, OutHalf, Wire}
use Rattle.agent_link.specs.Plans.{Plan}
use Rattle.agent_node.specs.Passing.{plug_to}
use Rattle.agent_node.specs.Openings.{others_of}
use Rattle.agent_node.specs.Kept.{AreEnds, IsShut, KnowsNone, ArePlanned, plan_of, plugs_of}
use Rattle.agent_threads.specs.Nets.{IsAbsent}
use Rattle.net_run.specs.declared.joints.Joint.{Joint}
use Rattle.net_run.specs.Joints.{wires, ends_of, IsShutJoint, IsPlannedJoint, or_else, IsSplit, AreOwn}
use Rattle.net_run.proofs.Joining.{cond_or, cond_step, or_assoc, or_none, wires_append}
use Rattle.net_run.proofs.Ends.{ends_append}

plug_more : (b o : ℕ) (os : List ℕ) (h : OutHalf) (i : Half) (hs : List OutHalf) (is : List Half) → length hs ≡ length os → length is ≡ length os
    → plug_to b (plugs_of (os ++ o ∷ []) (hs ++ h ∷ []) (is ++ i ∷ [])) ≡ or_else (plug_to b (plugs_of os hs is)) (cond (o == b) (Some (h.wire, i.wire)) None)
unfolding plug_to
plug_more b o [] h i [] [] e f = refl
plug_more b o [] h i [] (y ∷ ys) e f = absurd (omega (arith, f))
plug_more b o [] h i (x ∷ xs) is e f = absurd (omega (arith, e))
plug_more b o (n ∷ ns) h i [] is e f = absurd (omega (arith, e))
plug_more b o (n ∷ ns) h i (x ∷ xs) [] e f = absurd (omega (arith, f))
plug_more b o (n ∷ ns) h i (x ∷ xs) (y ∷ ys) e f =
    cond_step (n == b) (x.wire, y.wire) (plug_to b (plugs_of (ns ++ o ∷ []) (xs ++ h ∷ []) (ys ++ i ∷ []))) (plug_to b (plugs_of ns xs ys)) (cond (o == b) (Some (h.wire, i.wire)) None)
    (plug_more b o ns h i xs ys (omega (arith, e)) (omega (arith, f)))

none_own : (b : ℕ) (o : Option (Wire × Wire)) → or_else (plug_to b []) o ≡ o
unfolding plug_to
none_own b o = refl

pub split_none : (a : ℕ) (all : List Joint) → All IsShutJoint all → IsSplit a [] [] [] [] all all
split_none a all s = record {
  ends = record { outs = refl; incs = refl; shut = All-nil IsShut; known = All-nil KnowsNone };
  planned = λ plans p. record { own = refl; left = All-nil (IsPlannedJoint plans); behind = p };
  own = λ b. none_own b (wires a b all);
  left = λ b c n. refl;
  shut = All-nil IsShutJoint;
  behind = s;
  to = refl;
  of_others = λ b n. refl;
}

-- an end of the agent
pub split_own : (a : ℕ) (j : Joint) (os : List ℕ) (hs : List OutHalf) (is : List Half) (rest todo all : List Joint) → (j.at == a) ≡ true → IsSplit a os hs is rest (j ∷ todo) all
    → IsSplit a (os ++ j.other ∷ []) (hs ++ j.out ∷ []) (is ++ j.inc ∷ []) rest todo all
split_own a j os hs is rest todo all e s = record {
  ends = record {
    outs = let h = s.ends.outs in omega (arith, h, length-append hs (j.out ∷ []), length-append os (j.other ∷ []));
    incs = let h = s.ends.incs in omega (arith, h, length-append is (j.inc ∷ []), length-append os (j.other ∷ []));
    shut = All-push IsShut hs j.out s.ends.shut (All-head IsShutJoint j todo s.behind).out;
    known = All-push KnowsNone is j.inc s.ends.known (All-head IsShutJoint j todo s.behind).inc;
  };
  planned = λ plans p.
      let q = s.planned plans p in
      let here : j.out.plan ≡ plans a j.other = All-head (IsPlannedJoint plans) j todo q.behind ∙ ap (λ n. plans n j.other) (eqb-true j.at a e) in
      record {
        own = map_push plan_of hs j.out ∙ (ap₂ (λ (ps qs : List Plan). ps ++ qs) q.own (ap (λ (z : Plan). z ∷ []) here) ∙ sym (map_push (plans a) os j.other));
        left = q.left;
        behind = All-tail (IsPlannedJoint plans) j todo q.behind;
      };
  own = λ b.
      let w : Wire × Wire = (j.out.wire, j.inc.wire) in
      let P = plug_to b (plugs_of os hs is) in
      let one = cond (j.other == b) (Some w) None in
      ap (λ o. or_else o (wires a b todo)) (plug_more b j.other os j.out j.inc hs is s.ends.outs s.ends.incs)
      ∙ (or_assoc P one (wires a b todo)
      ∙ (ap (λ o. or_else P o) (sym (cond_or (j.other == b) w (wires a b todo)) ∙ ap (λ (z : Bool). cond (z && (j.other == b)) (Some w) (wires a b todo)) (sym e))
      ∙ s.own b));
  left = λ b c n.
      let w : Wire × Wire = (j.out.wire, j.inc.wire) in
      let not_it : (j.at == b) ≡ false = ne_eqb j.at b (λ q. n (sym q ∙ eqb-true j.at a e)) in
      ap (λ o. or_else (wires b c rest) o) (ap (λ (z : Bool). cond (z && (j.other == c)) (Some w) (wires b c todo)) (sym not_it)) ∙ s.left b c n;
  shut = s.shut;
  behind = All-tail IsShutJoint j todo s.behind;
  to = append_assoc os (j.other ∷ []) (ends_of a todo) ∙ (ap (λ (z : Bool). os ++ cond z (j.other ∷ ends_of a todo) (ends_of a todo)) (sym e) ∙ s.to);
  of_others = λ b n.
      let not_it : (j.at == b) ≡ false = ne_eqb j.at b (λ q. n (sym q ∙ eqb-true j.at a e)) in
      ap (λ (z : Bool). ends_of b rest ++ cond z (j.other ∷ ends_of b todo) (ends_of b todo)) (sym not_it) ∙ s.of_others b n;
}

-- an end of another one
pub split_rest : (a : ℕ) (j : Joint) (os : List ℕ) (hs : List OutHalf) (is : List Half) (rest todo all : List Joint) → (j.at == a) ≡ false → IsSplit a os hs is rest (j ∷ todo) all
    → IsSplit a os hs is (rest ++ j ∷ []) todo all
split_rest a j os hs is rest todo all e s = record {
  ends = s.ends;
  planned = λ plans p.
      let q = s.planned plans p in
      record {
        own = q.own;
        left = All-push (IsPlannedJoint plans) rest j q.left (All-head (IsPlannedJoint plans) j todo q.behind);
        behind = All-tail (IsPlannedJoint plans) j todo q.behind;
      };
  own = λ b.
      let w : Wire × Wire = (j.out.wire, j.inc.wire) in
      ap (λ o. or_else (plug_to b (plugs_of os hs is)) o) (ap (λ (z : Bool). cond (z && (j.other == b)) (Some w) (wires a b todo)) (sym e)) ∙ s.own b;
  left = λ b c n.
      let w : Wire × Wire = (j.out.wire, j.inc.wire) in
      ap (λ o. or_else o (wires b c todo)) (wires_append b c rest (j ∷ []))
      ∙ (or_assoc (wires b c rest) (wires b c (j ∷ [])) (wires b c todo)
      ∙ (ap (λ o. or_else (wires b c rest) o) (sym (cond_or ((j.at == b) && (j.other == c)) w (wires b c todo))) ∙ s.left b c n));
  shut = All-push IsShutJoint rest j s.shut (All-head IsShutJoint j todo s.behind);
  behind = All-tail IsShutJoint j todo s.behind;
  to = ap (λ (z : Bool). os ++ cond z (j.other ∷ ends_of a todo) (ends_of a todo)) (sym e) ∙ s.to;
  of_others = λ b n.
      ap (λ (ns : List ℕ). ns ++ ends_of b todo) (ends_append b rest (j ∷ []))
      ∙ (append_assoc (ends_of b rest) (ends_of b (j ∷ [])) (ends_of b todo)
      ∙ (ap (λ (ns : List ℕ). ends_of b rest ++ ns) (sym (ends_append b (j ∷ []) todo)) ∙ s.of_others b n));
}

pub own_of : (t : Network) (a : ℕ) (os : List ℕ) (hs : List OutHalf) (is : List Half) (rest all : List Joint) → IsSplit a os hs is rest [] all → os ≡ others_of t a → IsAbsent a (others_of t a)
    → AreOwn t a hs is rest all
own_of t a os hs is rest all s e n = record {
  ends = subst (λ (ns : List ℕ). AreEnds ns hs is) e s.ends;
  planned = λ plans p. subst (λ (ns : List ℕ). ArePlanned (plans a) ns hs) e (s.planned plans p).own;
  left_planned = λ plans p. (s.planned plans p).left;
  own = λ b. ap (λ (ns : List ℕ). plug_to b (plugs_of ns hs is)) (sym e) ∙ (sym (or_none (plug_to b (plugs_of os hs is))) ∙ s.own b);
  left = λ b c m. sym (or_none (wires b c rest)) ∙ s.left b c m;
  shut = s.shut;
  alone = n;
  of_others = λ b m. sym (append-nil (ends_of b rest)) ∙ s.of_others b m;
}

---- The loop

pub split_begin : (a : ℕ) (os : List ℕ) (hs : List OutHalf) (is : List Half) (rest todo all : List Joint) → os ≡ [] → hs ≡ [] → is ≡ [] → rest ≡ [] → todo ≡ all → All IsShutJoint all → IsSplit a os hs is rest todo all
split_begin a os hs is rest todo all e f g h k s =
    subst (λ (z : List ℕ). IsSplit a z hs is rest todo all) (sym e)
    (subst (λ (z : List OutHalf). IsSplit a [] z is rest todo all) (sym f)
    (subst (λ (z : List Half). IsSplit a [] [] z rest todo all) (sym g)
    (subst (λ (z : List Joint). IsSplit a [] [] [] z todo all) (sym h)
    (subst (λ (z : List Joint). IsSplit a [] [] [] [] z all) (sym k) (split_none a all s)))))

pub split_own_next : (a : ℕ) (j : Joint) (os ns : List ℕ) (hs ks : List OutHalf) (is ms : List Half) (rest todo behind all : List Joint) → (j.at == a) ≡ true
    → ns ≡ os ++ j.other ∷ [] → ks ≡ hs ++ j.out ∷ [] → ms ≡ is ++ j.inc ∷ [] → todo ≡ j ∷ behind → IsSplit a os hs is rest todo all → IsSplit a ns ks ms rest behind all
split_own_next a j os ns hs ks is ms rest todo behind all t e f g k s =
    subst (λ (z : List ℕ). IsSplit a z ks ms rest behind all) (sym e)
    (subst (λ (z : List OutHalf). IsSplit a (os ++ j.other ∷ []) z ms rest behind all) (sym f)
    (subst (λ (z : List Half). IsSplit a (os ++ j.other ∷ []) (hs ++ j.out ∷ []) z rest behind all) (sym g)
    (split_own a j os hs is rest behind all t (subst (λ (z : List Joint). IsSplit a os hs is rest z all) k s))))

pub split_rest_next : (a : ℕ) (j : Joint) (os : List ℕ) (hs : List OutHalf) (is : List Half) (rest more todo behind all : List Joint) → (j.at == a) ≡ false
    → more ≡ rest ++ j ∷ [] → todo ≡ j ∷ behind → IsSplit a os hs is rest todo all → IsSplit a os hs is more behind all
split_rest_next a j os hs is rest more todo behind all t e k s =
    subst (λ (z : List Joint). IsSplit a os hs is z behind all) (sym e)
    (split_rest a j os hs is rest behind all t (subst (λ (z : List Joint). IsSplit a os hs is rest z all) k s))
