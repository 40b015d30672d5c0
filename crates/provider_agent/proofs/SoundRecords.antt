-- Records of which no load passes a capacity, which are good, and whose ids rise: what leaves them so.
use Rattle.std.proofs.Common.{◌≡◌, ◌≤◌, ◌<◌, ◌+◌, inl, inr, ◌∙◌, ℕ, List, [], ◌∷◌, ◌++◌, Some, arith, refl, sym, ap, subst, length-append, slice_get, slice_set}
use Rattle.std.proofs.lemmas.List.Sums.{sum_by_push}
use Rattle.std.proofs.lemmas.Option.{slice_get_within}
use Rattle.nsi_base.specs.declared.flow.Flow.{Flow}
use Rattle.nsi_primitive.specs.Ids.{id_of}
use Rattle.capacity_calendar.specs.Places.{capacity_at}
use Rattle.connection_record.specs.declared.record.Record.{Record}
use Rattle.connection_record.specs.Demand.{demand, load}
use Rattle.provider_agent.specs.Setting.{Setting}
use Rattle.provider_agent.specs.Others.{others}
use Rattle.provider_agent.specs.Good.{IsGoodRecord, AreOrdered}
use Rattle.provider_agent.specs.Working.{works_in}
use Rattle.provider_agent.proofs.RecordPlaces.{set_cases, push_cases, sum_with}
use Rattle.provider_agent.proofs.EachTicked.{AreEach, each_new, each_sum_le}

-- what is kept of the records
pub record AreSound (setting : Setting) (next : ℕ) (records : List Record) : Type 0 where
  pub capped : (flow : Flow) (stp t capacity : ℕ) → capacity_at setting.capacities stp flow ≡ Some capacity → load flow stp t records ≤ capacity
  pub good : (n : ℕ) (r : Record) → slice_get records n ≡ Some r → IsGoodRecord r
  pub ordered : AreOrdered setting.number next records

-- each new record has the id of an old one at its place
abbrev HaveIdsOf : List Record → List Record → Type 0
HaveIdsOf old new = (n : ℕ) (a : Record) → slice_get new n ≡ Some a → (b : Record) × (slice_get old n ≡ Some b) × (a.id ≡ b.id)

ordered_alike : (agent next : ℕ) (old new : List Record) → AreOrdered agent next old → HaveIdsOf old new → AreOrdered agent next new
ordered_alike agent next old new o h = record {
  rise = λ i j a b lt p q. let x = h i a p in let y = h j b q in omega (arith, o.rise i j x.0 y.0 lt x.1 y.1, x.2, y.2);
  below = λ i a p. let x = h i a p in omega (arith, o.below i x.0 x.1, x.2);
}

-- Another record is put in the place of one.
pub sound_set : (setting : Setting) (next : ℕ) (records : List Record) (n : ℕ) (r x : Record) → AreSound setting next records → slice_get records n ≡ Some r → IsGoodRecord x → x.id ≡ r.id
    → ((flow : Flow) (stp t capacity : ℕ) → capacity_at setting.capacities stp flow ≡ Some capacity → load flow stp t (others n records) + demand flow stp t x ≤ capacity) → AreSound setting next (slice_set records n x)
sound_set setting next records n r x s h g same room = record {
  capped = λ flow stp t capacity c. omega (arith, sum_with (demand flow stp t) records n r x h, room flow stp t capacity c);
  good = λ k y p. elim (set_cases records n k x y r h p) [ inl e ↦ subst IsGoodRecord e.1 g | inr o ↦ s.good k y o ];
  ordered = ordered_alike setting.number next records (slice_set records n x) s.ordered alike;
}
  where
    alike : HaveIdsOf records (slice_set records n x)
    alike k y p = elim (set_cases records n k x y r h p) [
      | inl e ↦ (r, ap (slice_get records) e.0 ∙ h, ap (λ (z : Record). z.id) (sym e.1) ∙ same)
      | inr o ↦ (y, o, refl)
    ]

-- the next id is larger
id_more : (agent n : ℕ) → id_of agent n < id_of agent (n + 1)
id_more agent n = omega arith

id_le : (agent m n : ℕ) → m ≤ n → id_of agent m ≤ id_of agent n
id_le agent m n le = omega (arith, le)

-- A record that claims nothing is added under the next id.
pub sound_push : (setting : Setting) (next : ℕ) (records : List Record) (x : Record) → AreSound setting next records → IsGoodRecord x → x.id ≡ id_of setting.number next → ((flow : Flow) (stp t : ℕ) → demand flow stp t x ≡ 0)
    → AreSound setting (next + 1) (records ++ x ∷ [])
sound_push setting next records x s g id none = record {
  capped = λ flow stp t capacity c. omega (arith, sum_by_push (demand flow stp t) records x, s.capped flow stp t capacity c, none flow stp t);
  good = λ k y p. elim (push_cases records k x y p) [ inl e ↦ subst IsGoodRecord e.1 g | inr o ↦ s.good k y o ];
  ordered = record { rise = rise; below = below };
}
  where
    low : (k : ℕ) (y : Record) → slice_get records k ≡ Some y → y.id < id_of setting.number next
    low k y p = s.ordered.below k y p

    rise : (i j : ℕ) (a b : Record) → i < j → slice_get (records ++ x ∷ []) i ≡ Some a → slice_get (records ++ x ∷ []) j ≡ Some b → a.id < b.id
    rise i j a b lt p q = elim (push_cases records i x a p) [
      | inl e ↦ absurd (let short = slice_get_within (records ++ x ∷ []) j b q in let long = length-append records (x ∷ []) in omega (arith, e.0, lt, short, long))
      | inr o ↦ elim (push_cases records j x b q) [
        | inl f ↦ subst (λ (z : Record). a.id < z.id) f.1 (omega (arith, low i a o, id))
        | inr w ↦ s.ordered.rise i j a b lt o w
      ]
    ]

    below : (i : ℕ) (a : Record) → slice_get (records ++ x ∷ []) i ≡ Some a → a.id < id_of setting.number (next + 1)
    below i a p = elim (push_cases records i x a p) [
      | inl e ↦ subst (λ (z : Record). z.id < id_of setting.number (next + 1)) e.1 (omega (arith, id, id_more setting.number next))
      | inr o ↦ omega (arith, low i a o, id_more setting.number next)
    ]

-- Each record is another at its place, which claims no more and has no more to do.
pub record IsTamer (a b : Record) : Type 0 where
  pub good : IsGoodRecord a → IsGoodRecord b
  pub id : b.id ≡ a.id
  pub less : (flow : Flow) (stp t : ℕ) → demand flow stp t b ≤ demand flow stp t a
  pub works : works_in b ≤ works_in a

pub sound_each : (setting : Setting) (next : ℕ) (old new : List Record) → AreSound setting next old → AreEach IsTamer old new → AreSound setting next new
sound_each setting next old new s each = record {
  capped = λ flow stp t capacity c. omega (arith, each_sum_le IsTamer (demand flow stp t) old new (λ a b tame. tame.less flow stp t) each, s.capped flow stp t capacity c);
  good = λ k y p. let x = each_new IsTamer old new k y each p in x.2.good (s.good k x.0 x.1);
  ordered = ordered_alike setting.number next old new s.ordered (λ k y p. let x = each_new IsTamer old new k y each p in (x.0, x.1, x.2.id));
}

-- More ids are drawn.
pub sound_more : (setting : Setting) (next more : ℕ) (records : List Record) → AreSound setting next records → next ≤ more → AreSound setting more records
sound_more setting next more records s le = record {
  capped = s.capped;
  good = s.good;
  ordered = record { rise = s.ordered.rise; below = λ i a p. omega (arith, s.ordered.below i a p, id_le setting.number next more le) };
}
