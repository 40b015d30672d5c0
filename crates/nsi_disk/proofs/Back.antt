-- A call more in the log of a disk in memory.
use Rattle.std.proofs.Common.{◌≡◌, ℕ, ◌+◌, ◌-◌, ◌≤◌, min, List, [], ◌∷◌, ◌++◌, length, take, drop, reverse, refl, sym, ◌∙◌, ap, arith, append_assoc, length-append, length-drop, length-take, take-append-drop}
use Rattle.std.proofs.lemmas.List.{take_at, drop_at, drop-drop, take_min, reverse-append}
use Rattle.nsi_disk.specs.Disk.{Fresh, Wrote, CutTo, Synced, Broke, seen, written}
use Rattle.nsi_disk.specs.Memory.{back, told, before_write}
use Rattle.nsi_disk.specs.declared.content.Past.{Past}
use Rattle.nsi_disk.specs.declared.content.Past.TheVariants.{Write, Cut, Sync, Pause}

newest_first : (log : List Past) (p : Past) → reverse (log ++ p ∷ []) ≡ p ∷ reverse log
newest_first log p = reverse-append log (p ∷ [])

over_is : (saved over : List ℕ) (k : ℕ) → k ≡ length over → drop (length (saved ++ over) - k) (saved ++ over) ≡ over
over_is saved over k is = drop_at saved over (length (saved ++ over) - k) (omega (arith, length-append saved over, is))

saved_is : (saved over : List ℕ) (k : ℕ) → k ≡ length over → take (length (saved ++ over) - k) (saved ++ over) ≡ saved
saved_is saved over k is = take_at saved over (length (saved ++ over) - k) (omega (arith, length-append saved over, is))

pub told-write : (log : List Past) (saved over now : List ℕ) (at n k : ℕ) → k ≡ length over
    → told (log ++ Write at n k ∷ []) (saved ++ over) now ≡ Wrote at n now (told log saved (before_write at n over now))
unfolding told
told-write log saved over now at n k is =
    ap (λ (l : List Past). back l (saved ++ over) now) (newest_first log (Write at n k))
    ∙ ap (λ (s : List ℕ). Wrote at n now (back (reverse log) s (before_write at n (drop (length (saved ++ over) - k) (saved ++ over)) now))) (saved_is saved over k is)
    ∙ ap (λ (o : List ℕ). Wrote at n now (back (reverse log) saved (before_write at n o now))) (over_is saved over k is)

pub told-cut : (log : List Past) (saved over now : List ℕ) (n k : ℕ) → k ≡ length over
    → told (log ++ Cut n k ∷ []) (saved ++ over) now ≡ CutTo n now (told log saved (now ++ over))
unfolding told
told-cut log saved over now n k is =
    ap (λ (l : List Past). back l (saved ++ over) now) (newest_first log (Cut n k))
    ∙ ap (λ (s : List ℕ). CutTo n now (back (reverse log) s (now ++ drop (length (saved ++ over) - k) (saved ++ over)))) (saved_is saved over k is)
    ∙ ap (λ (o : List ℕ). CutTo n now (back (reverse log) saved (now ++ o))) (over_is saved over k is)

pub told-sync : (log : List Past) (saved now : List ℕ) → told (log ++ Sync ∷ []) saved now ≡ Synced (told log saved now)
unfolding told
told-sync log saved now = ap (λ (l : List Past). back l saved now) (newest_first log Sync)

pub told-pause : (log : List Past) (saved now : List ℕ) → told (log ++ Pause ∷ []) saved now ≡ Broke now (told log saved now)
unfolding told
told-pause log saved now = ap (λ (l : List Past). back l saved now) (newest_first log Pause)

back_reads : (log : List Past) (saved now : List ℕ) → seen (back log saved now) ≡ now
back_reads [] saved now = refl
back_reads (Write at n k ∷ log) saved now = refl
back_reads (Cut n k ∷ log) saved now = refl
back_reads (Sync ∷ log) saved now = back_reads log saved now
back_reads (Pause ∷ log) saved now = refl

-- what it reads last is what it reads
pub seen-told : (log : List Past) (saved now : List ℕ) → seen (told log saved now) ≡ now
unfolding told
seen-told log saved now = back_reads (reverse log) saved now

-- a write is undone
pub before-written : (at : ℕ) (piece old : List ℕ) → at ≤ length old
    → before_write at (length piece) (take (min (length piece) (length old - at)) (drop at old)) (written at piece old) ≡ old
before-written at piece old inside =
    let n = length piece in
    let front : take at (written at piece old) ≡ take at old =
    ap (take at) (append_assoc (take at old) piece (drop (at + n) old)) ∙ take_at (take at old) (piece ++ drop (at + n) old) at (omega (arith, length-take at old, inside)) in
    let behind : drop (at + n) (written at piece old) ≡ drop (at + n) old =
    drop_at (take at old ++ piece) (drop (at + n) old) (at + n) (omega (arith, length-append (take at old) piece, length-take at old, inside)) in
    let over : take (min n (length old - at)) (drop at old) ≡ take n (drop at old) =
    ap (λ (l : ℕ). take (min n l) (drop at old)) (sym (length-drop at old)) ∙ take_min n (drop at old) in
    ap (λ (l : List ℕ). l ++ (take (min n (length old - at)) (drop at old) ++ drop (at + n) (written at piece old))) front
    ∙ ap (λ (l : List ℕ). take at old ++ (take (min n (length old - at)) (drop at old) ++ l)) behind
    ∙ ap (λ (l : List ℕ). take at old ++ (l ++ drop (at + n) old)) over
    ∙ ap (λ (l : List ℕ). take at old ++ (take n (drop at old) ++ l)) (sym (drop-drop n at old))
    ∙ ap (λ (l : List ℕ). take at old ++ l) (take-append-drop n (drop at old))
    ∙ take-append-drop at old

pub write_done : (log log' : List Past) (saved saved' now now' over piece : List ℕ) (at n k : ℕ) → at ≤ length now → n ≡ length piece
    → log' ≡ log ++ Write at n k ∷ [] → saved' ≡ saved ++ over → now' ≡ written at piece now → over ≡ take (min (length piece) (length now - at)) (drop at now) → k ≡ length over
    → told log' saved' now' ≡ Wrote at (length piece) (written at piece now) (told log saved now)
write_done log log' saved saved' now now' over piece at n k inside size l s b o is =
    ap (λ (x : List Past). told x saved' now') l
    ∙ ap (λ (x : List ℕ). told (log ++ Write at n k ∷ []) x now') s
    ∙ ap (told (log ++ Write at n k ∷ []) (saved ++ over)) b
    ∙ told-write log saved over (written at piece now) at n k is
    ∙ ap (λ (m : ℕ). Wrote at m (written at piece now) (told log saved (before_write at m over (written at piece now)))) size
    ∙ ap (λ (x : List ℕ). Wrote at (length piece) (written at piece now) (told log saved (before_write at (length piece) x (written at piece now)))) o
    ∙ ap (λ (x : List ℕ). Wrote at (length piece) (written at piece now) (told log saved x)) (before-written at piece now inside)

pub cut_done : (log log' : List Past) (saved saved' now now' over : List ℕ) (n k : ℕ)
    → log' ≡ log ++ Cut n k ∷ [] → saved' ≡ saved ++ over → now' ≡ take n now → over ≡ drop n now → k ≡ length over
    → told log' saved' now' ≡ CutTo n (take n now) (told log saved now)
cut_done log log' saved saved' now now' over n k l s b o is =
    ap (λ (x : List Past). told x saved' now') l
    ∙ ap (λ (x : List ℕ). told (log ++ Cut n k ∷ []) x now') s
    ∙ ap (told (log ++ Cut n k ∷ []) (saved ++ over)) b
    ∙ told-cut log saved over (take n now) n k is
    ∙ ap (λ (x : List ℕ). CutTo n (take n now) (told log saved (take n now ++ x))) o
    ∙ ap (λ (x : List ℕ). CutTo n (take n now) (told log saved x)) (take-append-drop n now)

pub sync_done : (log log' : List Past) (saved now : List ℕ) → log' ≡ log ++ Sync ∷ [] → told log' saved now ≡ Synced (told log saved now)
sync_done log log' saved now l = ap (λ (x : List Past). told x saved now) l ∙ told-sync log saved now

pub pause_done : (log log' : List Past) (saved now : List ℕ) → log' ≡ log ++ Pause ∷ [] → told log' saved now ≡ Broke now (told log saved now)
pause_done log log' saved now l = ap (λ (x : List Past). told x saved now) l ∙ told-pause log saved now

-- the newest call taken off
pub pop-write : (log log' : List Past) (saved saved' over now now' : List ℕ) (at n k : ℕ) → log ≡ log' ++ Write at n k ∷ [] → saved' ≡ take (length saved - k) saved → over ≡ drop (length saved - k) saved
    → now' ≡ before_write at n over now → told log saved now ≡ Wrote at n now (told log' saved' now')
unfolding told
pop-write log log' saved saved' over now now' at n k l s o b =
    ap (λ (x : List Past). back (reverse x) saved now) l
    ∙ ap (λ (x : List Past). back x saved now) (newest_first log' (Write at n k))
    ∙ ap (λ (x : List ℕ). Wrote at n now (back (reverse log') x (before_write at n (drop (length saved - k) saved) now))) (sym s)
    ∙ ap (λ (x : List ℕ). Wrote at n now (back (reverse log') saved' (before_write at n x now))) (sym o)
    ∙ ap (λ (x : List ℕ). Wrote at n now (back (reverse log') saved' x)) (sym b)

pub pop-cut : (log log' : List Past) (saved saved' over now now' : List ℕ) (n k : ℕ) → log ≡ log' ++ Cut n k ∷ [] → saved' ≡ take (length saved - k) saved → over ≡ drop (length saved - k) saved
    → now' ≡ now ++ over → told log saved now ≡ CutTo n now (told log' saved' now')
unfolding told
pop-cut log log' saved saved' over now now' n k l s o b =
    ap (λ (x : List Past). back (reverse x) saved now) l
    ∙ ap (λ (x : List Past). back x saved now) (newest_first log' (Cut n k))
    ∙ ap (λ (x : List ℕ). CutTo n now (back (reverse log') x (now ++ drop (length saved - k) saved))) (sym s)
    ∙ ap (λ (x : List ℕ). CutTo n now (back (reverse log') saved' (now ++ x))) (sym o)
    ∙ ap (λ (x : List ℕ). CutTo n now (back (reverse log') saved' x)) (sym b)

pub pop-sync : (log log' : List Past) (saved now : List ℕ) → log ≡ log' ++ Sync ∷ [] → told log saved now ≡ Synced (told log' saved now)
unfolding told
pop-sync log log' saved now l = ap (λ (x : List Past). back (reverse x) saved now) l ∙ ap (λ (x : List Past). back x saved now) (newest_first log' Sync)

pub pop-pause : (log log' : List Past) (saved now : List ℕ) → log ≡ log' ++ Pause ∷ [] → told log saved now ≡ Broke now (told log' saved now)
unfolding told
pop-pause log log' saved now l = ap (λ (x : List Past). back (reverse x) saved now) l ∙ ap (λ (x : List Past). back x saved now) (newest_first log' Pause)

pub told-none : (log : List Past) (saved now : List ℕ) → log ≡ [] → told log saved now ≡ Fresh now
unfolding told
told-none log saved now l = ap (λ (x : List Past). back (reverse x) saved now) l
