-- How the command ends.
use Rattle.std.proofs.Common.{ℕ, ◌+◌, ◌≤◌, ◌<◌, ◌≡◌, ◌⊎◌, inl, inr, ◌∙◌, Bool, true, false, List, [], ◌∷◌, ◌++◌, length, take, nat_le, Option, Some, None, Ok, Err, IfSome, refl, sym, ap, subst, append-nil}
use Rattle.std.proofs.lemmas.Bool.{le-leb}
use Rattle.nsi_base.specs.Lines.{lines_of}
use Rattle.nsi_base.specs.Range.{greatest_input}
use Rattle.nsi_outside.specs.Stream.{WritesAll, WritesFront}
use Rattle.stp_topology.specs.Network.{nothing}
use Rattle.stp_topology.specs.Text.{behind_lines, read_lines}
use Rattle.stp_topology.specs.declared.fault.TopologyFault.{TopologyFault}
use Rattle.stp_topology.specs.declared.network.Network.{Network}
use Rattle.fault_lines.specs.Lines.{long_line, topology_fault}
use Rattle.trace_verify.specs.Lines.{trace_lines}
use Rattle.verify_command.specs.Ends.{Begins, Closes, HasEnded, HasLine, WritesSome, WritesSomeFront, is_told}
use Rattle.verify_command.specs.Verifies.{Verifies, VerifiesIf, VerifiesLines, VerifiesRead}
use Rattle.verify_command.specs.declared.end.VerifyEnd.{VerifyEnd}

---- Texts that are written at last

take_all : (xs : List ℕ) → take (length xs) xs ≡ xs
take_all [] = refl
take_all (x ∷ xs) = ap (λ ys. x ∷ ys) (take_all xs)

all_front : (old new : Option (List ℕ)) (text : List ℕ) → WritesAll old new text → WritesFront old new text
all_front None new text w = tt
all_front (Some c) new text w = (length text, w ∙ ap (λ x. Some (c ++ x)) (sym (take_all text)))

nothing_front : (old : Option (List ℕ)) (text : List ℕ) → WritesFront old old text
nothing_front None text = tt
nothing_front (Some c) text = (0, ap (λ x. Some x) (sym (append-nil c)))

module _ (text : List ℕ) (own : VerifyEnd) (told : HasLine own) (old new : Option (List ℕ)) (before after : ℕ) where
  pub closed : WritesAll old new text → after ≡ before → Closes text own own old new before after
  closed w q =
      record { kind = inl refl; told = λ _. w; front = all_front old new text w; write = λ e. absurd (told.write e); quiet = λ _. q }

  pub closed_cut : WritesFront old new text → before < after → Closes text own VerifyEnd.WriteFault old new before after
  closed_cut w r =
      record { kind = inr (inl refl); told = λ e. absurd (told.write (sym e)); front = w; write = λ _. r; quiet = λ n. absurd (n refl) }

  pub closed_wanting : WritesFront old new text → after ≡ before → Closes text own VerifyEnd.NoMemory old new before after
  closed_wanting w q =
      record { kind = inr (inr refl); told = λ e. absurd (told.memory (sym e)); front = w; write = λ e. cc; quiet = λ _. q }

-- nothing was written, for want of memory
pub unwritten : (text : List ℕ) (own : VerifyEnd) → HasLine own → (old : Option (List ℕ)) (faults : ℕ) → Closes text own VerifyEnd.NoMemory old old faults faults
unwritten text own told old faults = closed_wanting text own told old old faults faults (nothing_front old text) refl

---- An input that was read

some_all : (P : List ℕ → Type 0) (text : List ℕ) (old new : Option (List ℕ)) → P text → WritesAll old new text → WritesSome P old new
some_all P text None new p w = tt
some_all P text (Some c) new p w = (text, p, w)

some_front : (P : List ℕ → Type 0) (text : List ℕ) (old new : Option (List ℕ)) → P text → WritesFront old new text → WritesSomeFront P old new
some_front P text None new p w = tt
some_front P text (Some c) new p w = (text, w.0, p, w.1)

cut_short : (end : VerifyEnd) → (end ≡ VerifyEnd.WriteFault) ⊎ (end ≡ VerifyEnd.NoMemory) → is_told end ≡ true → ⊥
cut_short end (inl e) t = let f : is_told end ≡ false = ap is_told e in cc
cut_short end (inr e) t = let f : is_told end ≡ false = ap is_told e in cc

pub ended_so : (Texts : VerifyEnd → List ℕ → Type 0) (text : List ℕ) (own end : VerifyEnd) (old new : Option (List ℕ)) (before after : ℕ) → is_told own ≡ true → Texts own text → Closes text own end old new before after
    → HasEnded Texts old new before after end
ended_so Texts text own end old new before after told its c = by c.kind
  where
    not_read : (e : VerifyEnd) → e ≡ VerifyEnd.ReadFault → is_told e ≡ true → ⊥
    not_read e r t = let f : is_told e ≡ false = ap is_told r in cc

    by : (end ≡ own) ⊎ ((end ≡ VerifyEnd.WriteFault) ⊎ (end ≡ VerifyEnd.NoMemory)) → HasEnded Texts old new before after end
    by (inl e) = record {
      ends = λ _. some_all (Texts end) text old new (subst (λ x. Texts x text) (sym e) its) (c.told e);
      front = λ s. absurd (cut_short end s (ap is_told e ∙ told));
      write = c.write;
      quiet = c.quiet;
      read = λ r. not_read end r (ap is_told e ∙ told);
    }
    by (inr s) = record {
      ends = λ t. absurd (cut_short end s t);
      front = λ _. some_front (Begins Texts) text old new (inr (own, its)) c.front;
      write = c.write;
      quiet = c.quiet;
      read = λ r. by_short s r;
    }
      where
        by_short : (end ≡ VerifyEnd.WriteFault) ⊎ (end ≡ VerifyEnd.NoMemory) → end ≡ VerifyEnd.ReadFault → ⊥
        by_short (inl e) r = cc
        by_short (inr e) r = cc

pub nothing_begun : (Texts : VerifyEnd → List ℕ → Type 0) (old : Option (List ℕ)) → WritesSomeFront (Begins Texts) old old
nothing_begun Texts None = tt
nothing_begun Texts (Some c) = ([], 0, inl refl, ap (λ x. Some x) (sym (append-nil c)))

-- for want of memory nothing was written
pub ended_silently : (Texts : VerifyEnd → List ℕ → Type 0) (old : Option (List ℕ)) (faults : ℕ) → HasEnded Texts old old faults faults VerifyEnd.NoMemory
ended_silently Texts old faults = record {
  ends = λ t. cc;
  front = λ _. nothing_begun Texts old;
  write = λ e. cc;
  quiet = λ _. refl;
  read = λ e. cc;
}

some_as : (P Q : List ℕ → Type 0) → ((text : List ℕ) → P text → Q text) → (old new : Option (List ℕ)) → WritesSome P old new → WritesSome Q old new
some_as P Q f None new w = tt
some_as P Q f (Some c) new w = (w.0, f w.0 w.1, w.2)

front_as : (P Q : List ℕ → Type 0) → ((text : List ℕ) → P text → Q text) → (old new : Option (List ℕ)) → WritesSomeFront P old new → WritesSomeFront Q old new
front_as P Q f None new w = tt
front_as P Q f (Some c) new w = (w.0, w.1, f w.0 w.2, w.3)

begins_as : (Texts Others : VerifyEnd → List ℕ → Type 0) → ((end : VerifyEnd) (text : List ℕ) → Texts end text → Others end text) → (text : List ℕ) → Begins Texts text → Begins Others text
begins_as Texts Others f text (inl none) = inl none
begins_as Texts Others f text (inr (end, its)) = inr (end, f end text its)

pub ended_as : (Texts Others : VerifyEnd → List ℕ → Type 0) (old new : Option (List ℕ)) (before after : ℕ) (end : VerifyEnd) → ((e : VerifyEnd) (text : List ℕ) → Texts e text → Others e text)
    → HasEnded Texts old new before after end → HasEnded Others old new before after end
ended_as Texts Others old new before after end f h = record {
  ends = λ t. some_as (Texts end) (Others end) (f end) old new (h.ends t);
  front = λ s. front_as (Begins Texts) (Begins Others) (begins_as Texts Others f) old new (h.front s);
  write = h.write;
  quiet = h.quiet;
  read = h.read;
}

---- The whole input

in_size : (limit : ℕ) (bytes : List ℕ) (end : VerifyEnd) (text : List ℕ) → length bytes ≤ greatest_input → VerifiesRead limit bytes (read_lines nothing 0 (lines_of bytes)) end text → Verifies limit bytes end text
in_size limit bytes end text few x = subst (λ b. VerifiesIf b limit bytes end text) (sym (le-leb (length bytes) greatest_input few)) x

pub of_lines : (limit : ℕ) (bytes behind : List ℕ) (t : Network) (lines : ℕ) → length bytes ≤ greatest_input → read_lines nothing 0 (lines_of bytes) ≡ Ok (t, lines) → behind ≡ behind_lines lines bytes
    → (end : VerifyEnd) (text : List ℕ) → VerifiesLines limit t (lines + 1) (trace_lines behind) end text → Verifies limit bytes end text
of_lines limit bytes behind t lines few read is end text x =
    in_size limit bytes end text few
    (subst (λ r. VerifiesRead limit bytes r end text) (sym read) (subst (λ z. VerifiesLines limit t (lines + 1) (trace_lines z) end text) is x))

-- nothing is written before an input is read
pub nothing_read : (limit : ℕ) (left old : Option (List ℕ)) → IfSome left (λ bytes. WritesSomeFront (Begins (Verifies limit bytes)) old old)
nothing_read limit None old = tt
nothing_read limit (Some bytes) old = nothing_begun (Verifies limit bytes) old

pub of_fault : (limit : ℕ) (bytes : List ℕ) (line : ℕ) (fault : TopologyFault) → length bytes ≤ greatest_input → read_lines nothing 0 (lines_of bytes) ≡ Err (line, fault)
    → Verifies limit bytes VerifyEnd.BadTopology (topology_fault line fault)
of_fault limit bytes line fault few read =
    in_size limit bytes VerifyEnd.BadTopology (topology_fault line fault) few (subst (λ r. VerifiesRead limit bytes r VerifyEnd.BadTopology (topology_fault line fault)) (sym read) (refl, refl))
