-- Records and the views of their children, side by side.
use Rattle.std.proofs.Common.{ℕ, zero, suc, ◌+◌, ◌≤◌, ◌<◌, ◌≡◌, Bool, true, false, List, [], ◌∷◌, ◌++◌, refl, ap, arith, length, map, slice_set}
use Rattle.std.specs.List.{All, sum_by}
use Rattle.std.proofs.lemmas.List.Elements.{All-nil, All-cons}
use Rattle.std.proofs.lemmas.List.Sums.{sum_by-cons}
use Rattle.nsi_primitive.specs.declared.message.Body.{Body}
use Rattle.nsi_primitive.specs.declared.message.Message.{Message}
use Rattle.nsi_primitive.specs.declared.message.Service.{Service}
use Rattle.connection_record.specs.declared.record.Record.{Record}
use Rattle.connection_record.specs.Applied.{is_terminating}
use Rattle.connection_record.specs.Later.{IsLater}
use Rattle.child_connection.specs.Views.{ChildConnection}
use Rattle.agent_state.specs.declared.parent.Leg.{Leg}
use Rattle.agent_state.specs.State.{record_at, children_at}
use Rattle.aggregator_agent.specs.Asking.{view_of, views_of, with_path}
use Rattle.aggregator_agent.specs.Setting.{Setting}
use Rattle.request_worth.specs.Worth.{leg_to, CostsItsLeg, owed_end, owed_ends}
use Rattle.request_worth.proofs.Lasting.{Lasts}
use Rattle.request_worth.proofs.Turns.{views_price, leg_price, owed_few, owed_none, owed_all}
use Rattle.request_worth.proofs.Views.{new_costs}

same_points : (route : ℕ → ℕ → List Leg) (a b c d : ℕ) → a ≡ b → c ≡ d → route a c ≡ route b d
same_points route a b c d p q = rw (p, q) refl

abbrev leg_between : List ℕ → Service → Leg
leg_between name s = record { child = name; source = s.source; dest = s.dest }

module _ (price : Leg → ℕ) (fee : Message → ℕ) where
  ---- Views of a way

  ways_price : (legs : List Leg) → views_price price fee (map view_of legs) ≡ sum_by price legs
  ways_price [] = refl
  ways_price (l ∷ ls) = omega (arith, ways_price ls, sum_by-cons (leg_price price fee) (view_of l) (map view_of ls), sum_by-cons price l ls)

  ways_cost : (name : List ℕ) (legs : List Leg) → All (CostsItsLeg price fee name) (map view_of legs)
  ways_cost name [] = All-nil (CostsItsLeg price fee name)
  ways_cost name (l ∷ ls) = All-cons (CostsItsLeg price fee name) (view_of l) (map view_of ls) (new_costs price fee name l.child l.source l.dest) (ways_cost name ls)

  -- a reserve looks for children where there are none
  pub path_price : (body : Body) (xs : List ChildConnection) (legs : List Leg) → views_price price fee xs ≤ sum_by price legs → views_price price fee (with_path body xs legs) ≤ sum_by price legs
  unfolding with_path views_of
  path_price (Body.Reserve q) [] legs h = omega (arith, ways_price legs)
  path_price (Body.Reserve q) (x ∷ xs) legs h = h
  path_price _ xs legs h = h

  pub path_costs : (body : Body) (name : List ℕ) (xs : List ChildConnection) (legs : List Leg) → All (CostsItsLeg price fee name) xs → All (CostsItsLeg price fee name) (with_path body xs legs)
  unfolding with_path views_of
  path_costs (Body.Reserve q) name [] legs h = ways_cost name legs
  path_costs (Body.Reserve q) name (x ∷ xs) legs h = h
  path_costs _ name xs legs h = h

  ---- Connections

  -- the legs of a connection's way are worth less than the leg to the connection, by one at least, and those of its views no more than they
  pub record IsWayPaid (setting : Setting) (r : Record) (xs : List ChildConnection) : Type 0 where
    pub way : 1 + sum_by price (setting.route r.source r.dest) ≤ price (leg_to setting.agent.name r)
    pub views : views_price price fee xs ≤ sum_by price (setting.route r.source r.dest)

  pub paid_later : (setting : Setting) (r q : Record) (xs ys : List ChildConnection) → IsLater r q → IsWayPaid setting r xs → views_price price fee ys ≤ sum_by price (setting.route r.source r.dest) → IsWayPaid setting q ys
  paid_later setting r q xs ys later h few =
      let way : setting.route q.source q.dest ≡ setting.route r.source r.dest = same_points setting.route q.source r.source q.dest r.dest later.source later.dest in
      record {
        way = omega (arith, h.way, ap (sum_by price) way, ap (λ (s : Service). price (leg_between setting.agent.name s)) later.service);
        views = omega (arith, few, ap (sum_by price) way);
      }

  -- so is each
  abbrev pub ArePaid : Setting → List Record → List (List ChildConnection) → Type 0
  ArePaid setting [] [] = Unit {0}
  ArePaid setting (r ∷ rs) (xs ∷ xss) = IsWayPaid setting r xs × ArePaid setting rs xss
  ArePaid setting _ _ = ⊥

  pub paid_at : (setting : Setting) (n : ℕ) (rs : List Record) (xss : List (List ChildConnection)) → n < length rs → ArePaid setting rs xss → IsWayPaid setting (record_at n rs) (children_at n xss)
  paid_at setting n [] xss l h = absurd (omega (arith, l))
  paid_at setting n (r ∷ rs) [] l h = absurd h
  paid_at setting zero (r ∷ rs) (xs ∷ xss) l h = h.0
  paid_at setting (suc n) (r ∷ rs) (xs ∷ xss) l h = paid_at setting n rs xss (omega (arith, l)) h.1

  pub paid_set : (setting : Setting) (n : ℕ) (rs : List Record) (xss : List (List ChildConnection)) (r : Record) (xs : List ChildConnection) → IsWayPaid setting r xs → ArePaid setting rs xss → ArePaid setting (slice_set rs n r) (slice_set xss n xs)
  paid_set setting n [] [] r xs p h = h
  paid_set setting n [] (ys ∷ xss) r xs p h = absurd h
  paid_set setting n (q ∷ rs) [] r xs p h = absurd h
  paid_set setting zero (q ∷ rs) (ys ∷ xss) r xs p h = (p, h.1)
  paid_set setting (suc n) (q ∷ rs) (ys ∷ xss) r xs p h = (h.0, paid_set setting n rs xss r xs p h.1)

  pub paid_push : (setting : Setting) (rs : List Record) (xss : List (List ChildConnection)) (r : Record) (xs : List ChildConnection) → IsWayPaid setting r xs → ArePaid setting rs xss → ArePaid setting (rs ++ r ∷ []) (xss ++ xs ∷ [])
  paid_push setting [] [] r xs p h = (p, tt)
  paid_push setting [] (ys ∷ xss) r xs p h = absurd h
  paid_push setting (q ∷ rs) [] r xs p h = absurd h
  paid_push setting (q ∷ rs) (ys ∷ xss) r xs p h = (h.0, paid_push setting rs xss r xs p h.1)

  ---- What is owed

  pub owed_set : (setting : Setting) (n : ℕ) (rs : List Record) (xss : List (List ChildConnection)) (r : Record) (xs : List ChildConnection) → n < length rs → ArePaid setting rs xss →
      owed_ends price (slice_set rs n r) (slice_set xss n xs) + owed_end price (record_at n rs) (children_at n xss) ≡ owed_ends price rs xss + owed_end price r xs
  unfolding owed_ends
  owed_set setting n [] xss r xs l h = absurd (omega (arith, l))
  owed_set setting n (q ∷ rs) [] r xs l h = absurd h
  owed_set setting zero (q ∷ rs) (ys ∷ xss) r xs l h = omega arith
  owed_set setting (suc n) (q ∷ rs) (ys ∷ xss) r xs l h = omega (arith, owed_set setting n rs xss r xs (omega (arith, l)) h.1)

  pub owed_push : (setting : Setting) (rs : List Record) (xss : List (List ChildConnection)) (r : Record) → ArePaid setting rs xss → owed_ends price (rs ++ r ∷ []) (xss ++ [] ∷ []) ≡ owed_ends price rs xss
  unfolding owed_ends
  owed_push setting [] [] r h = omega (arith, owed_few price fee r [])
  owed_push setting [] (ys ∷ xss) r h = absurd h
  owed_push setting (q ∷ rs) [] r h = absurd h
  owed_push setting (q ∷ rs) (ys ∷ xss) r h = omega (arith, owed_push setting rs xss r h.1)

  -- a connection that lasts owes no more than it did
  pub owed_lasts : (r q : Record) (xs : List ChildConnection) → Lasts r q → owed_end price q xs ≤ owed_end price r xs
  owed_lasts r q xs lasts = by (is_terminating r.lsm) refl
    where
      by : (b : Bool) → is_terminating r.lsm ≡ b → owed_end price q xs ≤ owed_end price r xs
      by true e = omega (arith, owed_few price fee q xs, owed_all price fee r xs e)
      by false e = omega (arith, owed_none price fee q xs (lasts.lives e))
