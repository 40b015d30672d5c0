-- The last message of a queue, and the answers to what came.
use Rattle.std.proofs.Common.{ℕ, zero, suc, ◌+◌, ◌-◌, ◌*◌, ◌≡◌, ◌≤◌, inl, inr, List, [], ◌∷◌, ◌++◌, refl, ap, arith, length, length-append, length-drop, length-take, take, drop, le_refl, zero-le}
use Rattle.nsi_primitive.specs.declared.message.Identity.{Identity}
use Rattle.nsi_primitive.specs.declared.message.Message.{Message}
use Rattle.nsi_primitive.specs.declared.message.Parcel.{Parcel}
use Rattle.agent_link.specs.Plans.{Plan}
use Rattle.agent_link.specs.Fates.{copies, fate_of, passed, let_through}
use Rattle.agent_link.specs.declared.plan.Pushed.{Pushed}
use Rattle.agent_node.specs.Doors.{Door}
use Rattle.agent_node.proofs.Passing.{pushes_front, through_few}
use Rattle.quiet_rounds.specs.Left.{behind_one, last_message}
use Rattle.quiet_rounds.proofs.Calm.{answers, heard, passes}

one_rises : (a b : ℕ) → a ≤ b → behind_one a ≤ behind_one b
one_rises zero b h = zero-le
one_rises (suc a) zero h = absurd (omega (arith, h))
one_rises (suc a) (suc b) h = omega (arith, h)

one_none : (a : ℕ) → behind_one a ≡ 0 → a ≡ 0
one_none zero e = refl
one_none (suc a) e = absurd (omega (arith, e))

one_few : (a : ℕ) → behind_one a ≤ suc a
one_few zero = zero-le
one_few (suc a) = le_refl (suc (suc a))

one_drops : (a n x : ℕ) → x ≤ a - n → x ≤ behind_one a - suc n
one_drops zero n x h = omega (arith, h)
one_drops (suc a) n x h = omega (arith, h)

-- acknowledgements alone
none_answers : (ps : List Parcel) → last_message (answers ps) ≡ 0
none_answers [] = refl
none_answers (Parcel.Message m ∷ ps) = ap behind_one (none_answers ps)
none_answers (Parcel.Ack i ∷ ps) = none_answers ps

last_append : (xs ys : List Parcel) → last_message ys ≡ 0 → last_message (xs ++ ys) ≡ last_message xs
last_append [] ys e = e
last_append (Parcel.Message m ∷ xs) ys e = ap suc (last_append xs ys e)
last_append (Parcel.Ack i ∷ xs) ys e = ap behind_one (last_append xs ys e)

last_drop : (n : ℕ) (ps : List Parcel) → last_message (drop n ps) ≤ last_message ps - n
last_drop zero ps = omega arith
last_drop (suc n) [] = zero-le
last_drop (suc n) (Parcel.Message m ∷ ps) = let h = last_drop n ps in omega (arith, h)
last_drop (suc n) (Parcel.Ack i ∷ ps) = one_drops (last_message ps) n (last_message (drop n ps)) (last_drop n ps)

last_take : (n : ℕ) (ps : List Parcel) → last_message (take n ps) ≤ last_message ps
last_take zero ps = zero-le
last_take (suc n) [] = zero-le
last_take (suc n) (Parcel.Message m ∷ ps) = let h = last_take n ps in omega (arith, h)
last_take (suc n) (Parcel.Ack i ∷ ps) = one_rises (last_message (take n ps)) (last_message ps) (last_take n ps)

pub last_few : (ps : List Parcel) → last_message ps ≤ length ps
last_few [] = zero-le
last_few (Parcel.Message m ∷ ps) = let h = last_few ps in omega (arith, h)
last_few (Parcel.Ack i ∷ ps) = let h = last_few ps in let k = one_few (last_message ps) in omega (arith, h, k)

answers_few : (ps : List Parcel) → length (answers ps) ≤ length ps
answers_few [] = zero-le
answers_few (Parcel.Message m ∷ ps) = let h = answers_few ps in omega (arith, h)
answers_few (Parcel.Ack i ∷ ps) = let h = answers_few ps in omega (arith, h)

answers_none : (ps : List Parcel) → last_message ps ≡ 0 → length (answers ps) ≡ 0
answers_none [] e = refl
answers_none (Parcel.Message m ∷ ps) e = absurd (omega (arith, e))
answers_none (Parcel.Ack i ∷ ps) e = answers_none ps (one_none (last_message ps) e)

---- What a link lets through

-- a parcel comes, perhaps twice, or not at all
last_message_comes : (x : Pushed) (m : Message) (ps : List Parcel) (n : ℕ) → last_message ps ≤ 2 * n → last_message (copies x (Parcel.Message m) ++ ps) ≤ 2 * suc n
last_message_comes Pushed.Once m ps n h = omega (arith, h)
last_message_comes Pushed.Lost m ps n h = omega (arith, h)
last_message_comes Pushed.Twice m ps n h = omega (arith, h)

one_twice : (a n : ℕ) → a ≤ 2 * n → behind_one a ≤ 2 * behind_one n
one_twice zero n h = zero-le
one_twice (suc a) zero h = absurd (omega (arith, h))
one_twice (suc a) (suc n) h = omega (arith, h)

two_twice : (a n : ℕ) → a ≤ 2 * n → behind_one (behind_one a) ≤ 2 * behind_one n
two_twice zero n h = zero-le
two_twice (suc a) zero h = absurd (omega (arith, h))
two_twice (suc a) (suc n) h = omega (arith, h)

none_twice : (a n : ℕ) → a ≤ 2 * n → a ≤ 2 * behind_one n
none_twice a zero h = h
none_twice a (suc n) h = omega (arith, h)

last_ack_comes : (x : Pushed) (i : Identity) (ps : List Parcel) (n : ℕ) → last_message ps ≤ 2 * n → last_message (copies x (Parcel.Ack i) ++ ps) ≤ 2 * behind_one n
last_ack_comes Pushed.Once i ps n h = one_twice (last_message ps) n h
last_ack_comes Pushed.Lost i ps n h = none_twice (last_message ps) n h
last_ack_comes Pushed.Twice i ps n h = two_twice (last_message ps) n h

last_through : (plan : Plan) (ps : List Parcel) → last_message (let_through plan ps) ≤ 2 * last_message ps
unfolding let_through
last_through plan [] = zero-le
last_through plan (Parcel.Message m ∷ ps) = last_message_comes (fate_of (Parcel.Message m) plan) m (let_through (passed (Parcel.Message m) plan) ps) (last_message ps) (last_through (passed (Parcel.Message m) plan) ps)
last_through plan (Parcel.Ack i ∷ ps) = last_ack_comes (fate_of (Parcel.Ack i) plan) i (let_through (passed (Parcel.Ack i) plan) ps) (last_message ps) (last_through (passed (Parcel.Ack i) plan) ps)

---- A door behind a turn in which nothing happens

-- all that is put on the link, as far as it takes it
abbrev whole : Door → List Parcel
whole d = d.queue ++ answers d.inc

pub last_falls : (d : Door) → d.out ≡ [] → last_message (passes d).queue ≤ last_message d.queue - 512
last_falls d e =
    let f = pushes_front (heard d) e in
    let left = ap last_message f.queue in
    let h = last_drop f.count (whole d) in
    let same = last_append d.queue (answers d.inc) (none_answers d.inc) in
    elim f.stops [
      | inl none ↦ let n = ap last_message none in omega (arith, n)
      | inr many ↦ omega (arith, left, h, same, many)
    ]

pub last_out : (d : Door) → d.out ≡ [] → last_message (passes d).out ≤ 2 * last_message d.queue
last_out d e =
    let f = pushes_front (heard d) e in
    let out = ap last_message f.out in
    let a = last_through d.plan (take f.count (whole d)) in
    let h = last_take f.count (whole d) in
    let same = last_append d.queue (answers d.inc) (none_answers d.inc) in
    omega (arith, out, a, h, same)

pub queue_grows : (d : Door) → d.out ≡ [] → length d.inc ≤ 1024 → length (passes d).queue ≤ length d.queue + 512
queue_grows d e few =
    let f = pushes_front (heard d) e in
    let left = ap length f.queue in
    let h = length-drop f.count (whole d) in
    let a = answers_few d.inc in
    let l = length-append d.queue (answers d.inc) in
    elim f.stops [
      | inl none ↦ let n = ap length none in omega (arith, n)
      | inr many ↦ omega (arith, left, h, a, l, few, many)
    ]

pub queue_falls : (d : Door) → d.out ≡ [] → last_message d.inc ≡ 0 → length (passes d).queue ≤ length d.queue - 512
queue_falls d e none =
    let f = pushes_front (heard d) e in
    let left = ap length f.queue in
    let h = length-drop f.count (whole d) in
    let a = answers_none d.inc none in
    let l = length-append d.queue (answers d.inc) in
    elim f.stops [
      | inl none ↦ let n = ap length none in omega (arith, n)
      | inr many ↦ omega (arith, left, h, a, l, many)
    ]

pub out_few : (d : Door) → d.out ≡ [] → last_message d.inc ≡ 0 → length (passes d).out ≤ 2 * length d.queue
out_few d e none =
    let f = pushes_front (heard d) e in
    let out = ap length f.out in
    let most = through_few d.plan (take f.count (whole d)) in
    let taken = length-take f.count (whole d) in
    let a = answers_none d.inc none in
    let l = length-append d.queue (answers d.inc) in
    omega (arith, out, most, taken, a, l)
