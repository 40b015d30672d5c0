use Rattle.std.proofs.Common.{rules, Option, option_to_list, ◌≡◌, ◌∷◌, [], ◌++◌, ◌∙◌, ℕ, subst, sym, ap, ap₂, arith, length, List}
use Rattle.agent_node.specs.Kept.{Kept}
use Rattle.agent_node.specs.Seat.{Seat}
use Rattle.nsi_play.specs.Rounds.{Net, met_all, meets_each}
use Rattle.agent_threads.specs.Nets.{seats, numbers, EachIs, IsAbsent, AreApart, AreWired, IsLinkedToAll, plugs_to}
use Rattle.agent_threads.specs.Made.{Stays, met_by_each}
use Rattle.agent_threads.proofs.Pairs.{met_more}
use Rattle.agent_threads.proofs.Same.{still_apart, stays_same}
use Rattle.agent_threads.proofs.Turning.{whole_again}
use Rattle.agent_threads.proofs.Wires.{linked_others, numbers_stay, wired_still, seats_more, absent_front, absent_last, apart_front, apart_last, apart_self, wired_front, wired_last, wired_more, each_more, plugs_more, stays_length, stays_twice}
use Rattle.agent_threads.proofs.meeting.+meet_all.Goals as goal

pub meet_all-requires : goal.meet_all-requires
meet_all-requires g t c κs within =
    let ks = c.pop.new.self.items in
    let k = c.in-Some.last in (
      omega (arith, c.in-Some.ensures.len),
      (
        within,
        (
          apart_front ks k (subst (λ (xs : List Kept). AreApart (seats xs)) c.in-Some.ensures.items c.requires.apart),
          wired_front ks k (subst AreWired c.in-Some.ensures.items c.requires.wired),
        ),
      ),
    )

pub meet_rest-requires-clause-linked : goal.meet_rest-requires-clause-linked
meet_rest-requires-clause-linked g t c =
    let ks = c.pop.new.self.items in
    let k = c.in-Some.last in
    let apart = subst (λ (xs : List Kept). AreApart (seats xs)) c.in-Some.ensures.items c.requires.apart in
    let wired = subst AreWired c.in-Some.ensures.items c.requires.wired in
    subst (IsLinkedToAll k) (sym c.deref_mut.ensures.value)
    (linked_others k ks c.meet_all.new.nodes.items c.meet_all.ensures.each (c.meet_all.ensures.others k.seat.number (apart_last ks k apart)) (wired_last ks k wired))

pub meet_rest-requires-clause-alone : goal.meet_rest-requires-clause-alone
meet_rest-requires-clause-alone g t c =
    let ks = c.pop.new.self.items in
    let k = c.in-Some.last in
    let apart = subst (λ (xs : List Kept). AreApart (seats xs)) c.in-Some.ensures.items c.requires.apart in
    subst (λ (xs : List Kept). IsAbsent k.seat.number (numbers (seats xs))) (sym c.deref_mut.ensures.value)
    (subst (λ (ns : List ℕ). IsAbsent k.seat.number ns) (sym (numbers_stay ks c.meet_all.new.nodes.items c.meet_all.ensures.each)) (apart_last ks k apart))

pub meet_rest-requires-clause-apart : goal.meet_rest-requires-clause-apart
meet_rest-requires-clause-apart g t c =
    let ks = c.pop.new.self.items in
    let k = c.in-Some.last in
    let apart = subst (λ (xs : List Kept). AreApart (seats xs)) c.in-Some.ensures.items c.requires.apart in
    subst (λ (xs : List Kept). AreApart (seats xs)) (sym c.deref_mut.ensures.value)
    (still_apart ks c.meet_all.new.nodes.items (stays_same ks c.meet_all.new.nodes.items c.meet_all.ensures.each) (apart_front ks k apart))

pub push_reserved-requires : goal.push_reserved-requires
push_reserved-requires g t c =
    omega (arith, c.in-Some.ensures.len, c.in-Some.ensures.capacity, c.meet_all.ensures.capacity, stays_length c.pop.new.self.items c.meet_all.new.nodes.items c.meet_all.ensures.each)

pub returns-in-Some-clause-all : goal.returns-in-Some-clause-all
returns-in-Some-clause-all g t c =
    let ks = c.pop.new.self.items in
    let k = c.in-Some.last in
    let ms = c.meet_all.new.nodes.items in
    let v = c.deref_mut.ensures.value in
    let apart = subst (λ (xs : List Kept). AreApart (seats xs)) c.in-Some.ensures.items c.requires.apart in
    let whole = whole_again c.meet_rest.new.rest ms c.meet_all.new.nodes.len (omega (arith, c.meet_rest.auto.rest, ap length v)) (omega (arith, c.deref_mut.ensures.len, ap length v)) in
    ap seats (c.push_reserved.ensures.items ∙ ap (λ (xs : List Kept). xs ++ c.meet_rest.new.first ∷ []) whole)
    ∙ (seats_more c.meet_rest.new.rest c.meet_rest.new.first
    ∙ (ap₂ (λ (x : Net) (y : Seat). x ++ y ∷ [])
    (c.meet_rest.ensures.rest ∙ ap (λ (x : Net). met_by_each k.seat x) (ap seats v ∙ c.meet_all.ensures.all))
    (c.meet_rest.ensures.first ∙ ap (λ (x : Net). meets_each k.seat x) (ap seats v ∙ c.meet_all.ensures.all))
    ∙ (sym (met_more (seats ks) k.seat (apart_last ks k apart) (apart_self ks k apart) (apart_front ks k apart))
    ∙ ap met_all (sym (seats_more ks k) ∙ ap seats (sym c.in-Some.ensures.items)))))

pub returns-in-Some-clause-each : goal.returns-in-Some-clause-each
returns-in-Some-clause-each g t c =
    let ks = c.pop.new.self.items in
    let k = c.in-Some.last in
    let ms = c.meet_all.new.nodes.items in
    let v = c.deref_mut.ensures.value in
    let whole = whole_again c.meet_rest.new.rest ms c.meet_all.new.nodes.len (omega (arith, c.meet_rest.auto.rest, ap length v)) (omega (arith, c.deref_mut.ensures.len, ap length v)) in
    let each : EachIs Stays ms c.meet_rest.new.rest = subst (λ (xs : List Kept). EachIs Stays xs c.meet_rest.new.rest) v c.meet_rest.ensures.each in
    subst (λ (xs : List Kept). EachIs Stays xs c.push_reserved.new.self.items) (sym c.in-Some.ensures.items)
    (subst (λ (ys : List Kept). EachIs Stays (ks ++ k ∷ []) ys) (sym (c.push_reserved.ensures.items ∙ ap (λ (xs : List Kept). xs ++ c.meet_rest.new.first ∷ []) whole))
    (each_more Stays ks c.meet_rest.new.rest k c.meet_rest.new.first (stays_twice ks ms c.meet_rest.new.rest c.meet_all.ensures.each each) c.meet_rest.ensures.stays))

pub returns-in-Some-clause-wired : goal.returns-in-Some-clause-wired
returns-in-Some-clause-wired g t c =
    let ks = c.pop.new.self.items in
    let k = c.in-Some.last in
    let ms = c.meet_all.new.nodes.items in
    let v = c.deref_mut.ensures.value in
    let apart = subst (λ (xs : List Kept). AreApart (seats xs)) c.in-Some.ensures.items c.requires.apart in
    let whole = whole_again c.meet_rest.new.rest ms c.meet_all.new.nodes.len (omega (arith, c.meet_rest.auto.rest, ap length v)) (omega (arith, c.deref_mut.ensures.len, ap length v)) in
    let each : EachIs Stays ms c.meet_rest.new.rest = subst (λ (xs : List Kept). EachIs Stays xs c.meet_rest.new.rest) v c.meet_rest.ensures.each in
    let alone = subst (λ (ns : List ℕ). IsAbsent k.seat.number ns) (sym (numbers_stay ks ms c.meet_all.ensures.each)) (apart_last ks k apart) in
    let there = λ (m : ℕ) (h : m ≡ k.seat.number → ⊥). c.meet_rest.ensures.there m h ∙ ap (plugs_to m) v in
    let wired = wired_still k.seat.number ms c.meet_rest.new.rest each alone there c.meet_all.ensures.wired in
    subst AreWired (sym (c.push_reserved.ensures.items ∙ ap (λ (xs : List Kept). xs ++ c.meet_rest.new.first ∷ []) whole)) (wired_more c.meet_rest.new.rest c.meet_rest.new.first wired c.meet_rest.ensures.linked)

pub returns-in-Some-clause-others : goal.returns-in-Some-clause-others
returns-in-Some-clause-others g t c = λ m h.
    let ks = c.pop.new.self.items in
    let k = c.in-Some.last in
    let ms = c.meet_all.new.nodes.items in
    let v = c.deref_mut.ensures.value in
    let whole = whole_again c.meet_rest.new.rest ms c.meet_all.new.nodes.len (omega (arith, c.meet_rest.auto.rest, ap length v)) (omega (arith, c.deref_mut.ensures.len, ap length v)) in
    let absent : IsAbsent m (numbers (seats (ks ++ k ∷ []))) = subst (λ (xs : List Kept). IsAbsent m (numbers (seats xs))) c.in-Some.ensures.items h in
    let front : IsAbsent m (numbers (seats ks)) = absent_front m ks k absent in
    let mid : IsAbsent m (numbers (seats c.deref_mut.result.now)) =
    subst (λ (xs : List Kept). IsAbsent m (numbers (seats xs))) (sym v) (subst (λ (ns : List ℕ). IsAbsent m ns) (sym (numbers_stay ks ms c.meet_all.ensures.each)) front) in
    ap (plugs_to m) (c.push_reserved.ensures.items ∙ ap (λ (xs : List Kept). xs ++ c.meet_rest.new.first ∷ []) whole)
    ∙ (plugs_more m c.meet_rest.new.rest c.meet_rest.new.first
    ∙ (ap₂ (λ x y. x ++ y ∷ [])
    (c.meet_rest.ensures.there m (absent_last m ks k absent) ∙ (ap (plugs_to m) v ∙ c.meet_all.ensures.others m front))
    (c.meet_rest.ensures.here m mid)
    ∙ (sym (plugs_more m ks k) ∙ ap (plugs_to m) (sym c.in-Some.ensures.items))))

pub returns-in_default-clause-all : goal.returns-in_default-clause-all
returns-in_default-clause-all g t c =
    let now : c.pop.new.self.items ≡ [] = search rules in
    let was : c.args.nodes.now.items ≡ [] = c.pop.ensures.items ∙ (ap (λ (ks : List Kept). ks ++ option_to_list c.pop.result) now ∙ ap (λ (o : Option Kept). option_to_list o) c.in_default.is) in
    ap seats now ∙ sym (ap (λ (ks : List Kept). met_all (seats ks)) was)

pub returns-in_default-clause-each : goal.returns-in_default-clause-each
returns-in_default-clause-each g t c =
    let now : c.pop.new.self.items ≡ [] = search rules in
    let was : c.args.nodes.now.items ≡ [] = c.pop.ensures.items ∙ (ap (λ (ks : List Kept). ks ++ option_to_list c.pop.result) now ∙ ap (λ (o : Option Kept). option_to_list o) c.in_default.is) in
    subst (λ (ks : List Kept). EachIs Stays ks c.pop.new.self.items) (sym was) (subst (λ (ks : List Kept). EachIs Stays [] ks) (sym now) tt)

pub returns-in_default-clause-wired : goal.returns-in_default-clause-wired
returns-in_default-clause-wired g t c =
    let now : c.pop.new.self.items ≡ [] = search rules in
    subst AreWired (sym now) tt
