-- The capacities by point, behind one more.
use Rattle.std.proofs.Common.{◌≡◌, ◌≢◌, ◌<◌, ◌&&◌, ◌⊎◌, inl, inr, ℕ, List, [], ◌∷◌, ◌++◌, Bool, true, false, cond, eqb, set, length, get_or, replicate, Option, Some, None, arith, refl, sym, ap, ◌∙◌}
use Rattle.std.proofs.lemmas.Bool.{eq-eqb, ne_eqb}
use Rattle.std.proofs.lemmas.List.{get_or-set_same, get_or-set_other, get_or-replicate}
use Rattle.nsi_base.specs.declared.flow.Flow.{Flow}
use Rattle.nsi_base.specs.declared.flow.Flow.TheVariants.{Both, In, Out}
use Rattle.capacity_calendar.specs.declared.booking.Capacity.{Capacity}
use Rattle.capacity_calendar.specs.declared.booking.PointCapacities.{PointCapacities}
use Rattle.capacity_calendar.specs.ByPoint.{of_flow, nothing, AreByPoint}
use Rattle.capacity_calendar.specs.Lack.{or_else}
use Rattle.capacity_calendar.specs.Places.{capacity_at, is_same_flow}

or_same : (n m : ℕ) → (n ≡ m) ⊎ (n ≢ m)
or_same n m = grind arith

none_of : (flow : Flow) → of_flow flow nothing ≡ None
none_of Both = refl
none_of In = refl
none_of Out = refl

-- at first there are none
pub by_point-nothing : AreByPoint [] (replicate 4096 nothing)
by_point-nothing stp flow le = ap (of_flow flow) (get_or-replicate 4096 stp nothing nothing (omega arith)) ∙ none_of flow

-- the one behind the others counts where none comes before
at_pushed : (cs : List Capacity) (c : Capacity) (stp : ℕ) (flow : Flow) → capacity_at (cs ++ c ∷ []) stp flow ≡ or_else (capacity_at cs stp flow) (cond (eqb c.stp stp && is_same_flow c.flow flow) (Some c.mbps) None)
at_pushed [] c stp flow = refl
at_pushed (d ∷ cs) c stp flow = by_test (eqb d.stp stp && is_same_flow d.flow flow) (at_pushed cs c stp flow)
  where
    by_test : (t : Bool) → capacity_at (cs ++ c ∷ []) stp flow ≡ or_else (capacity_at cs stp flow) (cond (eqb c.stp stp && is_same_flow c.flow flow) (Some c.mbps) None)
        → cond t (Some d.mbps) (capacity_at (cs ++ c ∷ []) stp flow) ≡ or_else (cond t (Some d.mbps) (capacity_at cs stp flow)) (cond (eqb c.stp stp && is_same_flow c.flow flow) (Some c.mbps) None)
    by_test true h = refl
    by_test false h = h

or_none : (o : Option ℕ) → or_else o None ≡ o
or_none None = refl
or_none (Some x) = refl

-- the table with one more kept at its point
pub by_point-pushed : (cs : List Capacity) (c : Capacity) (table : List PointCapacities) (kept : PointCapacities) → c.stp < length table
    → ((f : Flow) → of_flow f kept ≡ cond (is_same_flow c.flow f) (or_else (of_flow f (get_or table c.stp nothing)) (Some c.mbps)) (of_flow f (get_or table c.stp nothing)))
    → AreByPoint cs table → AreByPoint (cs ++ c ∷ []) (set table c.stp kept)
by_point-pushed cs c table kept lt is h stp flow le = elim (or_same stp c.stp) [
  | inl e ↦
      let here : get_or (set table c.stp kept) stp nothing ≡ kept = ap (λ p. get_or (set table c.stp kept) p nothing) e ∙ get_or-set_same table c.stp kept nothing lt in
      let there : of_flow flow (get_or table c.stp nothing) ≡ capacity_at cs stp flow = sym (ap (λ p. of_flow flow (get_or table p nothing)) e) ∙ h stp flow le in
      ap (of_flow flow) here ∙ is flow ∙ by_flow (is_same_flow c.flow flow) (of_flow flow (get_or table c.stp nothing)) (capacity_at cs stp flow) there
      ∙ sym (ap (λ t. or_else (capacity_at cs stp flow) (cond (t && is_same_flow c.flow flow) (Some c.mbps) None)) (eq-eqb c.stp stp (sym e)))
      ∙ sym (at_pushed cs c stp flow)
  | inr d ↦
      ap (of_flow flow) (get_or-set_other table c.stp stp kept nothing d) ∙ h stp flow le ∙ sym (or_none (capacity_at cs stp flow))
      ∙ sym (ap (λ t. or_else (capacity_at cs stp flow) (cond (t && is_same_flow c.flow flow) (Some c.mbps) None)) (ne_eqb c.stp stp (λ e. d (sym e))))
      ∙ sym (at_pushed cs c stp flow)
]
  where
    by_flow : (t : Bool) (o p : Option ℕ) → o ≡ p → cond t (or_else o (Some c.mbps)) o ≡ or_else p (cond t (Some c.mbps) None)
    by_flow true o p e = ap (λ x. or_else x (Some c.mbps)) e
    by_flow false o p e = e ∙ sym (or_none p)
