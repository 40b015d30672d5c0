-- What a queue comes to that is put on a link, as far as the link takes it.
use Rattle.std.proofs.Common.{ℕ, suc, ◌+◌, ◌*◌, ◌≤◌, ◌≡◌, ◌⊎◌, inl, inr, List, [], ◌∷◌, ◌++◌, refl, sym, ap, ◌∙◌, arith, length, take, drop, length-append, length-take, append_assoc, append-nil, Bool, true, false, if◌then◌else◌}
use Rattle.std.specs.List.{All}
use Rattle.std.proofs.lemmas.Bool.{ltb-true, ltb-false}
use Rattle.std.proofs.lemmas.List.Elements.{All-nil, All-cons, All-head, All-tail, All-append}
use Rattle.nsi_primitive.specs.declared.message.Parcel.{Parcel}
use Rattle.agent_link.specs.declared.plan.Pushed.{Pushed}
use Rattle.agent_link.specs.Link.{is_full, most_parcels}
use Rattle.agent_link.specs.Plans.{Plan}
use Rattle.agent_link.specs.Fates.{copies, comes, fate_of, passed, let_through}
use Rattle.agent_node.specs.Doors.{Door}
use Rattle.agent_node.specs.Passing.{Passing, passes, pushes}

---- What is so of all that is queued

copies_all : (P : Parcel → Type 0) (x : Pushed) (p : Parcel) → P p → All P (copies x p)
copies_all P Pushed.Once p h = All-cons P p [] h (All-nil P)
copies_all P Pushed.Lost p h = All-nil P
copies_all P Pushed.Twice p h = All-cons P p (p ∷ []) h (All-cons P p [] h (All-nil P))

abbrev still : List Parcel → Plan → List Parcel → Passing
still queue plan out = record { queue = queue; out = out; plan = plan }

abbrev passes_if : Bool → Parcel → List Parcel → Plan → List Parcel → Passing
passes_if b p ps plan out = if b then still (p ∷ ps) plan out else passes ps (passed p plan) (out ++ comes p plan)

out_if : (P : Parcel → Type 0) (b : Bool) (p : Parcel) (ps : List Parcel) (plan : Plan) (out : List Parcel) → All P out → All P (passes ps (passed p plan) (out ++ comes p plan)).out → All P (passes_if b p ps plan out).out
out_if P true p ps plan out k r = k
out_if P false p ps plan out k r = r

-- is so of all that is let through
pub passes_out : (P : Parcel → Type 0) (ps : List Parcel) (plan : Plan) (out : List Parcel) → All P ps → All P out → All P (passes ps plan out).out
unfolding passes
passes_out P [] plan out h k = k
passes_out P (p ∷ ps) plan out h k =
    out_if P (is_full p plan out) p ps plan out k
    (passes_out P ps (passed p plan) (out ++ comes p plan) (All-tail P p ps h) (All-append P out (comes p plan) k (copies_all P (fate_of p plan) p (All-head P p ps h))))

queue_if : (P : Parcel → Type 0) (b : Bool) (p : Parcel) (ps : List Parcel) (plan : Plan) (out : List Parcel) → All P (p ∷ ps) → All P (passes ps (passed p plan) (out ++ comes p plan)).queue → All P (passes_if b p ps plan out).queue
queue_if P true p ps plan out h r = h
queue_if P false p ps plan out h r = r

-- and of all that is left
pub passes_queue : (P : Parcel → Type 0) (ps : List Parcel) (plan : Plan) (out : List Parcel) → All P ps → All P (passes ps plan out).queue
unfolding passes
passes_queue P [] plan out h = h
passes_queue P (p ∷ ps) plan out h =
    queue_if P (is_full p plan out) p ps plan out h (passes_queue P ps (passed p plan) (out ++ comes p plan) (All-tail P p ps h))

-- no more than a link takes
few_if : (b : Bool) (p : Parcel) (ps : List Parcel) (plan : Plan) (out : List Parcel) → is_full p plan out ≡ b → length out ≤ most_parcels
    → (length (out ++ comes p plan) ≤ most_parcels → length (passes ps (passed p plan) (out ++ comes p plan)).out ≤ most_parcels) → length (passes_if b p ps plan out).out ≤ most_parcels
few_if true p ps plan out e few r = few
few_if false p ps plan out e few r = r (omega (arith, ltb-false most_parcels (length out + length (comes p plan)) e, length-append out (comes p plan)))

pub passes_few : (ps : List Parcel) (plan : Plan) (out : List Parcel) → length out ≤ most_parcels → length (passes ps plan out).out ≤ most_parcels
unfolding passes
passes_few [] plan out few = few
passes_few (p ∷ ps) plan out few = few_if (is_full p plan out) p ps plan out refl few (λ more. passes_few ps (passed p plan) (out ++ comes p plan) more)

---- How much is let through

twice_at_most : (x : Pushed) (p : Parcel) → length (copies x p) ≤ 2
twice_at_most Pushed.Once p = omega arith
twice_at_most Pushed.Lost p = omega arith
twice_at_most Pushed.Twice p = omega arith

pub through_few : (plan : Plan) (ps : List Parcel) → length (let_through plan ps) ≤ 2 * length ps
unfolding let_through
through_few plan [] = omega arith
through_few plan (p ∷ ps) = omega (arith, twice_at_most (fate_of p plan) p, through_few (passed p plan) ps, length-append (comes p plan) (let_through (passed p plan) ps))

through_none : (plan : Plan) (out : List Parcel) → out ++ let_through plan [] ≡ out
unfolding let_through
through_none plan out = append-nil out

through_more : (plan : Plan) (p : Parcel) (ps out : List Parcel) → (out ++ comes p plan) ++ let_through (passed p plan) ps ≡ out ++ let_through plan (p ∷ ps)
unfolding let_through
through_more plan p ps out = append_assoc out (comes p plan) (let_through (passed p plan) ps)

-- so many of a queue are put on the link: all, or the link is nearly full
record IsFront (q : List Parcel) (plan : Plan) (before : List Parcel) (x : Passing) : Type 0 where
  pub count : ℕ
  pub queue : x.queue ≡ drop count q
  pub out : x.out ≡ before ++ let_through plan (take count q)
  pub stops : (x.queue ≡ []) ⊎ (most_parcels ≤ length x.out + 1)

front_if : (b : Bool) (p : Parcel) (ps : List Parcel) (plan : Plan) (out : List Parcel) → is_full p plan out ≡ b
    → IsFront ps (passed p plan) (out ++ comes p plan) (passes ps (passed p plan) (out ++ comes p plan)) → IsFront (p ∷ ps) plan out (passes_if b p ps plan out)
front_if true p ps plan out e f = record {
  count = 0;
  queue = refl;
  out = sym (through_none plan out);
  stops = inr (omega (arith, ltb-true most_parcels (length out + length (comes p plan)) e, twice_at_most (fate_of p plan) p));
}
front_if false p ps plan out e f = record {
  count = suc f.count;
  queue = f.queue;
  out = f.out ∙ through_more plan p (take f.count ps) out;
  stops = f.stops;
}

front_of : (q : List Parcel) (plan : Plan) (out : List Parcel) → IsFront q plan out (passes q plan out)
unfolding passes
front_of [] plan out = record { count = 0; queue = refl; out = sym (through_none plan out); stops = inl refl }
front_of (p ∷ ps) plan out = front_if (is_full p plan out) p ps plan out refl (front_of ps (passed p plan) (out ++ comes p plan))

-- so many of a door's queue are put on the link, where nothing was since its ends met
pub record IsPushed (d : Door) : Type 0 where
  pub count : ℕ
  pub queue : (pushes d).queue ≡ drop count d.queue
  pub out : (pushes d).out ≡ let_through d.plan (take count d.queue)
  pub stops : ((pushes d).queue ≡ []) ⊎ (512 ≤ count)
  pub few : length (pushes d).out ≤ most_parcels

pub pushes_front : (d : Door) → d.out ≡ [] → IsPushed d
pushes_front d e =
    let f = front_of d.queue d.plan d.out in
    let out : (pushes d).out ≡ let_through d.plan (take f.count d.queue) = f.out ∙ ap (λ (ps : List Parcel). ps ++ let_through d.plan (take f.count d.queue)) e in
    let size = ap length out in
    let most = through_few d.plan (take f.count d.queue) in
    let taken = length-take f.count d.queue in
    record {
      count = f.count;
      queue = f.queue;
      out = out;
      stops = elim f.stops [
        | inl n ↦ inl n
        | inr n ↦ inr (omega (arith, n, size, most, taken))
      ];
      few = passes_few d.queue d.plan d.out (omega (arith, ap length e));
    }
