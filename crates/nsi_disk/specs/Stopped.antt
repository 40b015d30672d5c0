-- What a stop of a disk in memory leaves is one of the images.
use Rattle.std.specs.Prelude.{is_some}
use Rattle.std.proofs.lemmas.Bool.{true≢false}
use Rattle.std.proofs.Common.{◌≡◌, false, ℕ, ◌+◌, ◌≤◌, max, List, ◌++◌, length, take, drop, replicate, Option, Some, None, refl, sym, ◌∙◌, ap, subst, arith, append_assoc, length-append, length-drop, length-take, inr}
use Rattle.std.proofs.lemmas.List.{take_at, drop_at, take_all, length-replicate}
use Rattle.nsi_disk.specs.Disk.{History, Fresh, Wrote, CutTo, Synced, Broke, seen, written, IsTornWrite, IsTornCut, MayLeave, MayStep}
use Rattle.nsi_disk.specs.Images.{old_image, torn_image, image_of, shows, leaving, stopped_at, Made}
use Rattle.nsi_disk.specs.declared.plan.Image.{Image}
use Rattle.nsi_disk.specs.declared.plan.Image.TheVariants.{Old, New, Torn}

pub length-written : (at : ℕ) (piece d : List ℕ) → at ≤ length d → length (written at piece d) ≡ max (length d) (at + length piece)
length-written at piece d inside =
    omega (arith, length-append (take at d ++ piece) (drop (at + length piece) d), length-append (take at d) piece, length-drop (at + length piece) d, length-take at d, inside)

-- a write of any piece of that length is one that a crash may have cut short
pub torn-written : (at n : ℕ) (piece d : List ℕ) → at ≤ length d → n ≡ length piece → IsTornWrite at n d (written at piece d)
torn-written at n piece d inside is = record {
  before = ap (take at) (append_assoc (take at d) piece (drop (at + length piece) d)) ∙ take_at (take at d) (piece ++ drop (at + length piece) d) at (omega (arith, length-take at d, inside));
  after = ap (λ (m : ℕ). drop (at + m) (written at piece d)) is ∙ drop_at (take at d ++ piece) (drop (at + length piece) d) (at + length piece) (omega (arith, length-append (take at d) piece, length-take at d, inside)) ∙ ap (λ (m : ℕ). drop (at + m) d) (sym is);
  no_shorter = omega (arith, length-written at piece d inside);
  no_longer = omega (arith, length-written at piece d inside, is);
}

pub torn_none : (at n : ℕ) (d : List ℕ) → IsTornWrite at n d d
torn_none at n d = record { before = refl; after = refl; no_shorter = omega arith; no_longer = omega arith }

pub cut_none : (n : ℕ) (d : List ℕ) → IsTornCut n d d
cut_none n d = record { no_shorter = omega arith; front = take_all (length d) d (omega arith) }

pub cut_whole : (n : ℕ) (d : List ℕ) → n ≤ length d → IsTornCut n d (take n d)
cut_whole n d inside = let is : length (take n d) ≡ n = omega (arith, length-take n d, inside) in record { no_shorter = omega (arith, is); front = ap (λ (m : ℕ). take m d) is }

pub old_leaves : (h : History) → MayLeave h (old_image h)
old_leaves (Fresh bytes) = refl
old_leaves (Wrote at n now h) = (old_image h, old_leaves h, torn_none at n (old_image h))
old_leaves (CutTo n now h) = (old_image h, old_leaves h, cut_none n (old_image h))
old_leaves (Synced h) = refl
old_leaves (Broke now h) = old_leaves h

size_of : (at n : ℕ) (now : List ℕ) → at + n ≤ length now → n ≡ length (take n (drop at now))
size_of at n now reach = omega (arith, length-take n (drop at now), length-drop at now, reach)

pub new_leaves : (h : History) → Made h → MayLeave h (seen h)
new_leaves (Fresh bytes) m = refl
new_leaves (Wrote at n now h) (inside, (reach, (is, before))) =
    (seen h, new_leaves h before, subst (IsTornWrite at n (seen h)) (sym is) (torn-written at n (take n (drop at now)) (seen h) inside (size_of at n now reach)))
new_leaves (CutTo n now h) (inside, (is, before)) = (seen h, new_leaves h before, subst (IsTornCut n (seen h)) (sym is) (cut_whole n (seen h) inside))
new_leaves (Synced h) m = refl
new_leaves (Broke now h) (is, before) = subst (MayLeave h) (sym is) (new_leaves h before)

pub torn_long : (h : History) → Made h → length (torn_image h) ≡ length (seen h)
torn_long (Fresh bytes) m = refl
torn_long (Wrote at n now h) (inside, (reach, (is, before))) =
    let old = torn_long h before in
    omega (arith, length-written at (replicate n 165) (torn_image h) (omega (arith, old, inside)), length-replicate {A = ℕ} n 165, old, length-written at (take n (drop at now)) (seen h) inside, size_of at n now reach, ap length is)
torn_long (CutTo n now h) (inside, (is, before)) = omega (arith, length-take n (torn_image h), length-take n (seen h), torn_long h before, ap length is)
torn_long (Synced h) m = refl
torn_long (Broke now h) (is, before) = torn_long h before ∙ sym (ap length is)

pub torn_leaves : (h : History) → Made h → MayLeave h (torn_image h)
torn_leaves (Fresh bytes) m = refl
torn_leaves (Wrote at n now h) (inside, (reach, (is, before))) =
    (torn_image h, torn_leaves h before, torn-written at n (replicate n 165) (torn_image h) (omega (arith, torn_long h before, inside)) (sym (length-replicate n 165)))
torn_leaves (CutTo n now h) (inside, (is, before)) = (torn_image h, torn_leaves h before, cut_whole n (torn_image h) (omega (arith, torn_long h before, inside)))
torn_leaves (Synced h) m = refl
torn_leaves (Broke now h) (is, before) = torn_leaves h before

pub image_leaves : (image : Image) (h : History) → Made h → MayLeave h (image_of image h)
image_leaves Old h m = old_leaves h
image_leaves New h m = new_leaves h m
image_leaves Torn h m = torn_leaves h m

leaving_leaves : (c : List ℕ) (h : History) → Made h → MayLeave h c → MayLeave (leaving c h) (seen (leaving c h))
leaving_leaves c (Fresh bytes) m may = refl
leaving_leaves c (Wrote at n now h) m may = may
leaving_leaves c (CutTo n now h) m may = may
leaving_leaves c (Synced h) m may = refl
leaving_leaves c (Broke now h) m may = may

-- the law of the trait
pub reads_image : (shown : Option Image) (h : History) → Made h → MayLeave (stopped_at shown h) (seen (stopped_at shown h))
reads_image None h m = new_leaves h m
reads_image (Some image) h m = leaving_leaves (image_of image h) h m (image_leaves image h m)

-- the three kinds of stop
pub stop_broke : (image : Image) (h new : History) → Made h → new ≡ Broke (seen h) h → MayStep Broke h (Some (stopped_at (Some image) new))
stop_broke image h new m is = inr (subst (λ (k : History). (c : List ℕ) × (Some (stopped_at (Some image) k) ≡ Some (Broke c h)) × MayLeave (Broke c h) c) (sym is)
    (image_of image (Broke (seen h) h), refl, image_leaves image (Broke (seen h) h) (refl, m)))

made_write : (at : ℕ) (piece : List ℕ) (h : History) → at ≤ length (seen h) → Made h → Made (Wrote at (length piece) (written at piece (seen h)) h)
made_write at piece h inside m =
    let now = written at piece (seen h) in
    let front : length (take at (seen h)) ≡ at = omega (arith, length-take at (seen h), inside) in
    let is : take (length piece) (drop at now) ≡ piece =
    ap (λ (l : List ℕ). take (length piece) (drop at l)) (append_assoc (take at (seen h)) piece (drop (at + length piece) (seen h)))
    ∙ ap (take (length piece)) (drop_at (take at (seen h)) (piece ++ drop (at + length piece) (seen h)) at front)
    ∙ take_at piece (drop (at + length piece) (seen h)) (length piece) refl in
    (inside, (omega (arith, length-written at piece (seen h) inside), (ap (λ (p : List ℕ). written at p (seen h)) (sym is), m)))

pub stop_write : (image : Image) (at : ℕ) (piece : List ℕ) (h new : History) → at ≤ length (seen h) → Made h → new ≡ Wrote at (length piece) (written at piece (seen h)) h → MayStep (Wrote at (length piece)) h (Some (stopped_at (Some image) new))
stop_write image at piece h new inside m is =
    let done = Wrote at (length piece) (written at piece (seen h)) h in
    inr (subst (λ (k : History). (c : List ℕ) × (Some (stopped_at (Some image) k) ≡ Some (Wrote at (length piece) c h)) × MayLeave (Wrote at (length piece) c h) c) (sym is)
    (image_of image done, refl, image_leaves image done (made_write at piece h inside m)))

made_cut : (n : ℕ) (h : History) → n ≤ length (seen h) → Made h → Made (CutTo n (take n (seen h)) h)
made_cut n h inside m = (inside, (refl, m))

pub stop_cut : (image : Image) (n : ℕ) (h new : History) → n ≤ length (seen h) → Made h → new ≡ CutTo n (take n (seen h)) h → MayStep (CutTo n) h (Some (stopped_at (Some image) new))
stop_cut image n h new inside m is =
    let done = CutTo n (take n (seen h)) h in
    inr (subst (λ (k : History). (c : List ℕ) × (Some (stopped_at (Some image) k) ≡ Some (CutTo n c h)) × MayLeave (CutTo n c h) c) (sym is)
    (image_of image done, refl, image_leaves image done (made_cut n h inside m)))

-- and the calls that were carried out
pub write_made : (at : ℕ) (piece : List ℕ) (h new : History) → at ≤ length (seen h) → Made h → new ≡ Wrote at (length piece) (written at piece (seen h)) h → Made new
write_made at piece h new inside m is = subst Made (sym is) (made_write at piece h inside m)

pub cut_made : (n : ℕ) (h new : History) → n ≤ length (seen h) → Made h → new ≡ CutTo n (take n (seen h)) h → Made new
cut_made n h new inside m is = subst Made (sym is) (made_cut n h inside m)

pub sync_made : (h new : History) → Made h → new ≡ Synced h → Made new
sync_made h new m is = subst Made (sym is) m

pub broke_made : (h new : History) → Made h → new ≡ Broke (seen h) h → Made new
broke_made h new m is = let made : Made (Broke (seen h) h) = (refl, m) in subst Made (sym is) made

-- the same, of a disk that isn't stopped
pub write_stops : (shown : Option Image) (image : Image) (at : ℕ) (piece : List ℕ) (h new : History) → is_some shown ≡ false → at ≤ length (seen (stopped_at shown h)) → Made h
    → new ≡ Wrote at (length piece) (written at piece (seen h)) h → MayStep (Wrote at (length piece)) (stopped_at shown h) (Some (stopped_at (Some image) new))
write_stops None image at piece h new runs inside m is = stop_write image at piece h new inside m is
write_stops (Some i) image at piece h new runs inside m is = absurd (true≢false runs)

pub cut_stops : (shown : Option Image) (image : Image) (n : ℕ) (h new : History) → is_some shown ≡ false → n ≤ length (seen (stopped_at shown h)) → Made h
    → new ≡ CutTo n (take n (seen h)) h → MayStep (CutTo n) (stopped_at shown h) (Some (stopped_at (Some image) new))
cut_stops None image n h new runs inside m is = stop_cut image n h new inside m is
cut_stops (Some i) image n h new runs inside m is = absurd (true≢false runs)

pub broke_stops : (shown : Option Image) (image : Image) (h new : History) → is_some shown ≡ false → Made h → new ≡ Broke (seen h) h → MayStep Broke (stopped_at shown h) (Some (stopped_at (Some image) new))
broke_stops None image h new runs m is = stop_broke image h new m is
broke_stops (Some i) image h new runs m is = absurd (true≢false runs)

pub runs_on : (shown : Option Image) (h : History) → is_some shown ≡ false → stopped_at shown h ≡ h
runs_on None h runs = refl
runs_on (Some i) h runs = absurd (true≢false runs)

leaving_may : (c x : List ℕ) (h : History) → MayLeave h x → MayLeave (leaving c h) x
leaving_may c x (Fresh bytes) may = may
leaving_may c x (Wrote at n now h) may = may
leaving_may c x (CutTo n now h) may = may
leaving_may c x (Synced h) may = may
leaving_may c x (Broke now h) may = may

-- what a crash may leave of a disk, stopped or not
pub stopped_may : (shown : Option Image) (x : List ℕ) (h : History) → MayLeave h x → MayLeave (stopped_at shown h) x
stopped_may None x h may = may
stopped_may (Some image) x h may = leaving_may (image_of image h) x h may

pub shows_leaves : (shown : Option Image) (h : History) → Made h → MayLeave (stopped_at shown h) (shows shown h)
shows_leaves None h m = new_leaves h m
shows_leaves (Some image) h m = stopped_may (Some image) (image_of image h) h (image_leaves image h m)

pub opened_again : (shown shown' : Option Image) (h k : History) → Made h → k ≡ Fresh (shows shown h) → shown' ≡ None → (c : List ℕ) × MayLeave (stopped_at shown h) c × (Some (stopped_at shown' k) ≡ Some (Fresh c))
opened_again shown shown' h k m is none = (shows shown h, shows_leaves shown h m, ap (λ (s : Option Image). Some (stopped_at s k)) none ∙ ap (λ (j : History). Some j) is)
