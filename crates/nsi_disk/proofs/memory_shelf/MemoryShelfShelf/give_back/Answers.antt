use Rattle.std.proofs.Common.{◌≡◌, List, ℕ, Bool, Some, Option, ap, ◌∙◌, if◌then◌else◌, true, false, refl}
use Rattle.std.specs.Prelude.{bytes_eq}
use Rattle.nsi_disk.proofs.memory_shelf.MemoryShelfShelf.give_back.Goals as goal

some_if : (b : Bool) (x y : List ℕ) → (◌≡◌ {A = Option (List ℕ)} (Some (if b then x else y)) (if b then Some x else Some y))
some_if true x y = refl
some_if false x y = refl

pub returns-clause-held : goal.returns-clause-held
returns-clause-held c = (
  c.into_bytes.result.items,
  c.into_bytes.ensures.image,
  c.into_bytes.ensures.seen,
  λ n. ap (λ (l : List ℕ). Some l) (c.put.ensures.held n) ∙ some_if (bytes_eq c.args.name.now n) _ _,
)
