-- What is gone, what is known and what was let through since are what the plan lets through of all that was put.
use Rattle.std.proofs.Common.{List, [], ◌∷◌, ◌++◌, ◌≡◌, refl, sym, ap, ◌∙◌, append_assoc, append-nil, Bool, true, false}
use Rattle.nsi_primitive.specs.declared.message.Parcel.{Parcel}
use Rattle.agent_link.specs.Plans.{Plan}
use Rattle.agent_link.specs.Fates.{comes, passed, let_through, passed_all}
use Rattle.agent_link.specs.Link.{is_full}
use Rattle.agent_link.specs.Line.{Line, Step, Push, Take, Clear, Meet, unused, pushed_if, met_if, after, after_all}

-- one parcel more
through_one : (plan : Plan) (ps : List Parcel) (p : Parcel) → let_through plan (ps ++ p ∷ []) ≡ let_through plan ps ++ comes p (passed_all plan ps)
unfolding let_through passed_all
through_one plan [] p = append-nil (comes p plan)
through_one plan (x ∷ xs) p = ap (λ ys. comes x plan ++ ys) (through_one (passed x plan) xs p) ∙ sym (append_assoc (comes x plan) (let_through (passed x plan) xs) (comes p (passed_all (passed x plan) xs)))

passed_one : (plan : Plan) (ps : List Parcel) (p : Parcel) → passed_all plan (ps ++ p ∷ []) ≡ passed p (passed_all plan ps)
unfolding passed_all
passed_one plan [] p = refl
passed_one plan (x ∷ xs) p = passed_one (passed x plan) xs p

record Holds (plan : Plan) (l : Line) : Type 0 where
  pub all : (l.gone ++ l.known) ++ l.out ≡ let_through plan l.put
  pub rest : l.plan ≡ passed_all plan l.put

pushed_all : (plan : Plan) (p : Parcel) (l : Line) → Holds plan l → (l.gone ++ l.known) ++ (l.out ++ comes p l.plan) ≡ let_through plan (l.put ++ p ∷ [])
pushed_all plan p l h =
    sym (append_assoc (l.gone ++ l.known) l.out (comes p l.plan)) ∙ (ap (λ xs. xs ++ comes p l.plan) h.all
    ∙ (ap (λ q. let_through plan l.put ++ comes p q) h.rest ∙ sym (through_one plan l.put p)))

push_if : (plan : Plan) (b : Bool) (p : Parcel) (l : Line) → Holds plan l → Holds plan (pushed_if b p l)
push_if plan true p l h = h
push_if plan false p l h = record { all = pushed_all plan p l h; rest = ap (passed p) h.rest ∙ sym (passed_one plan l.put p) }

take_of : (plan : Plan) (l : Line) (ps : List Parcel) → l.known ≡ ps → Holds plan l → Holds plan (after Take (record l { known = ps }))
take_of plan l [] e h = record { all = ap (λ xs. xs ++ l.out) (append-nil (l.gone ++ []) ∙ ap (λ xs. l.gone ++ xs) (sym e)) ∙ h.all; rest = h.rest }
take_of plan l (p ∷ ps) e h = record { all = ap (λ xs. xs ++ l.out) (append_assoc l.gone (p ∷ []) ps ∙ ap (λ xs. l.gone ++ xs) (sym e)) ∙ h.all; rest = h.rest }

clear_of : (plan : Plan) (l : Line) → Holds plan l → Holds plan (after Clear l)
clear_of plan l h = record { all = ap (λ xs. xs ++ l.out) (append-nil (l.gone ++ l.known)) ∙ h.all; rest = h.rest }

meet_of : (plan : Plan) (l : Line) (ps : List Parcel) → l.known ≡ ps → Holds plan l → Holds plan (met_if ps l)
meet_of plan l [] e h = record { all = append-nil (l.gone ++ l.out) ∙ (ap (λ xs. xs ++ l.out) (sym (append-nil l.gone) ∙ ap (λ xs. l.gone ++ xs) (sym e)) ∙ h.all); rest = h.rest }
meet_of plan l (p ∷ ps) e h = h

step : (plan : Plan) (x : Step) (l : Line) → Holds plan l → Holds plan (after x l)
step plan (Push p) l h = push_if plan (is_full p l.plan l.out) p l h
step plan Take l h = take_of plan l l.known refl h
step plan Clear l h = clear_of plan l h
step plan Meet l h = meet_of plan l l.known refl h

all : (plan : Plan) (xs : List Step) (l : Line) → Holds plan l → Holds plan (after_all xs l)
all plan [] l h = h
all plan (x ∷ xs) l h = all plan xs (after x l) (step plan x l h)

begin : (plan : Plan) → Holds plan (unused plan)
unfolding let_through passed_all
begin plan = record { all = refl; rest = refl }

pub in_order : (plan : Plan) (xs : List Step) → ((after_all xs (unused plan)).gone ++ (after_all xs (unused plan)).known) ++ (after_all xs (unused plan)).out ≡ let_through plan (after_all xs (unused plan)).put
in_order plan xs = (all plan xs (unused plan) (begin plan)).all
