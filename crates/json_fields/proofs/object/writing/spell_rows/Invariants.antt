use Rattle.std.proofs.Common.{◌≡◌, ◌++◌, ◌∷◌, drop, false}
use Rattle.std.specs.Prelude.{map}
use Rattle.serde_json.specs.Data.{object}
use Rattle.serde_json.specs.View.{items_of}
use Rattle.serde_json.specs.Written.{items_text}
use Rattle.json_fields.specs.Written.{members_of, rows_of}
use Rattle.json_fields.proofs.object.writing.spell_rows.Given as goal

abbrev pub invariant-loop-row : goal.invariant-loop-row
invariant-loop-row l =
    l.text.items ++ items_text l.is_later (items_of (map (λ o. object (members_of o)) (drop l.row-index l.rows.items.items))) ≡ l.fn.text.items ++ 91 ∷ items_text false (items_of (rows_of l.rows))
