-- A race, as the program tells it.
use Rattle.std.proofs.Common.{◌≡◌, ℕ, true, false, Option, Some, None, inl, refl, sym, ◌∙◌, subst}
use Rattle.provide_command.specs.declared.status.Status.{Status}
use Rattle.race_command.specs.declared.ending.RaceEnd.{RaceEnd}
use Rattle.nsi_program.specs.Plain.{Outside}
use Rattle.nsi_program.specs.RacesTo.{EndsRace}

-- memory is wanting for the words, and nothing is written
pub unraced : (most : ℕ) (old : Outside) → EndsRace most old old Status.NoMemory
unraced most old = record {
  end = RaceEnd.NoMemory;
  told = refl;
  raced = record {
    ends = λ e. absurd (untold e);
    read_fault = λ e. absurd (no_read e);
    alone = λ e. absurd (no_read e);
    write_fault = λ e. absurd (no_write e);
    disk_fault = λ e. absurd (no_disk e);
    unfinished = λ _. inl refl;
    quiet_in = λ _. refl;
    quiet_out = λ _. refl;
  };
}
  where
    untold : false ≡ true → ⊥
    untold e = cc

    no_read : RaceEnd.NoMemory ≡ RaceEnd.ReadFault → ⊥
    no_read e = cc

    no_write : RaceEnd.NoMemory ≡ RaceEnd.WriteFault → ⊥
    no_write e = cc

    no_disk : RaceEnd.NoMemory ≡ RaceEnd.DiskFault → ⊥
    no_disk e = cc

-- the words don't name a race and none at once
pub not_both : {T : Type 0} (most : ℕ) (said : Option ℕ) → said ≡ Some most → said ≡ None → T
not_both most said some none = absurd (apart (sym some ∙ none))
  where
    apart : Some most ≡ None → ⊥
    apart e = cc

pub same_limit : (a b : ℕ) → Some a ≡ Some b → a ≡ b
same_limit a b e = cc

pub at_limit : (a b : ℕ) (old new : Outside) (status : Status) → a ≡ b → EndsRace a old new status → EndsRace b old new status
at_limit a b old new status e h = subst (λ (n : ℕ). EndsRace n old new status) e h
