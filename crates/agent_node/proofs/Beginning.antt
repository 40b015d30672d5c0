-- To whom the links of an agent go, and its links before anything went through.
use Rattle.std.proofs.Common.{ℕ, suc, ◌+◌, ◌-◌, ◌<◌, ◌≡◌, Bool, true, false, cond, List, [], ◌∷◌, ◌++◌, sym, ap, ◌∙◌, arith, map, filter, drop, append_assoc, append-nil}
use Rattle.std.specs.List.{All, range_with_len}
use Rattle.std.proofs.lemmas.List.{map-append}
use Rattle.std.proofs.lemmas.List.Elements.{All-head, All-tail}
use Rattle.agent_link.specs.Link.{Half, OutHalf}
use Rattle.agent_link.specs.Plans.{Plan}
use Rattle.agent_node.specs.declared.links.Link.{Link}
use Rattle.agent_node.specs.Doors.{Door}
use Rattle.agent_node.specs.Passing.{Plug}
use Rattle.agent_node.specs.Kept.{AreEnds, IsShut, KnowsNone, ArePlanned, plugs_of}
use Rattle.agent_node.specs.Linked.{door_of, plug_of, doors, plugs}
use Rattle.agent_node.specs.Openings.{first_door, opened}

---- Numbers that pass a test

range_next : (n m : ℕ) → n < m → range_with_len n (m - n) ≡ n ∷ range_with_len (n + 1) (m - (n + 1))
range_next n m h = ap (range_with_len n) (let e : m - n ≡ suc (m - (n + 1)) = omega (arith, h) in e)

one_and_rest : (f : ℕ → Bool) (b : Bool) (n : ℕ) (front rest : List ℕ) → (front ++ cond b (n ∷ []) []) ++ rest ≡ front ++ cond b (n ∷ rest) rest
one_and_rest f true n front rest = append_assoc front (n ∷ []) rest
one_and_rest f false n front rest = ap (λ xs. xs ++ rest) (append-nil front)

pub linked_next : (f : ℕ → Bool) (front : List ℕ) (n m : ℕ) → n < m
    → (front ++ filter f (n ∷ [])) ++ filter f (range_with_len (n + 1) (m - (n + 1))) ≡ front ++ filter f (range_with_len n (m - n))
linked_next f front n m h =
    one_and_rest f (f n) n front (filter f (range_with_len (n + 1) (m - (n + 1)))) ∙ ap (λ xs. front ++ filter f xs) (sym (range_next n m h))

---- Links

shut_door : (b : ℕ) (l : Link) (plan : Plan) → l.other ≡ b → l.queue ≡ [] → l.out.parcels ≡ [] → l.inc.parcels ≡ [] → l.out.plan ≡ plan → door_of l ≡ first_door plan b
shut_door b l plan p q r s e =
    ap (λ (n : ℕ). record { other = n; queue = l.queue; out = l.out.parcels; plan = l.out.plan; inc = l.inc.parcels }) p
    ∙ (ap (λ ps. record { other = b; queue = ps; out = l.out.parcels; plan = l.out.plan; inc = l.inc.parcels }) q
    ∙ (ap (λ ps. record { other = b; queue = []; out = ps; plan = l.out.plan; inc = l.inc.parcels }) r
    ∙ (ap (λ ps. record { other = b; queue = []; out = []; plan = l.out.plan; inc = ps }) s
    ∙ ap (λ (x : Plan). record { other = b; queue = []; out = []; plan = x; inc = [] }) e)))

pub doors_next : (plans : ℕ → Plan) (front : List Link) (l : Link) (b : ℕ) (bs : List ℕ) → l.other ≡ b → l.queue ≡ [] → l.out.parcels ≡ [] → l.inc.parcels ≡ [] → l.out.plan ≡ plans b
    → doors (front ++ l ∷ []) ++ map (opened plans) bs ≡ doors front ++ map (opened plans) (b ∷ bs)
doors_next plans front l b bs p q r s e =
    ap (λ ds. ds ++ map (opened plans) bs) (map-append door_of front (l ∷ []) ∙ ap (λ (d : Door). doors front ++ d ∷ []) (shut_door b l (plans b) p q r s e))
    ∙ append_assoc (doors front) (opened plans b ∷ []) (map (opened plans) bs)

abbrev head_or : Plan → List Plan → Plan
head_or d [] = d
head_or d (x ∷ xs) = x

-- what is planned for the first of them, and for the rest
pub plan_first : (plans : ℕ → Plan) (b : ℕ) (bs : List ℕ) (o : OutHalf) (os : List OutHalf) → ArePlanned plans (b ∷ bs) (o ∷ os) → o.plan ≡ plans b
plan_first plans b bs o os h = ap (head_or []) h

pub plan_rest : (plans : ℕ → Plan) (b : ℕ) (bs : List ℕ) (o : OutHalf) (os : List OutHalf) → ArePlanned plans (b ∷ bs) (o ∷ os) → ArePlanned plans bs os
plan_rest plans b bs o os h = ap (drop 1) h

pub plugs_next : (front : List Link) (l : Link) (b : ℕ) (bs : List ℕ) (o : OutHalf) (i : Half) (os : List OutHalf) (is : List Half) → plug_of l ≡ record { other = b; out = o.wire; inc = i.wire }
    → plugs (front ++ l ∷ []) ++ plugs_of bs os is ≡ plugs front ++ plugs_of (b ∷ bs) (o ∷ os) (i ∷ is)
plugs_next front l b bs o i os is e =
    ap (λ ps. ps ++ plugs_of bs os is) (map-append plug_of front (l ∷ []) ∙ ap (λ (p : Plug). plugs front ++ p ∷ []) e)
    ∙ append_assoc (plugs front) (record { other = b; out = o.wire; inc = i.wire } ∷ []) (plugs_of bs os is)

-- the ends that are left
pub ends_next : (b : ℕ) (bs : List ℕ) (o : OutHalf) (i : Half) (os : List OutHalf) (is : List Half) → AreEnds (b ∷ bs) (o ∷ os) (i ∷ is) → AreEnds bs os is
ends_next b bs o i os is e = record {
  outs = let h = e.outs in omega (arith, h);
  incs = let h = e.incs in omega (arith, h);
  shut = All-tail IsShut o os e.shut;
  known = All-tail KnowsNone i is e.known;
}

pub first_shut : (o : OutHalf) (os : List OutHalf) → All IsShut (o ∷ os) → o.parcels ≡ []
first_shut o os h = All-head IsShut o os h

pub first_knows_none : (i : Half) (is : List Half) → All KnowsNone (i ∷ is) → i.parcels ≡ []
first_knows_none i is h = All-head KnowsNone i is h
