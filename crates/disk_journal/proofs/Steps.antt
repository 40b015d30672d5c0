-- What the calls of a journal leave.
use Rattle.std.proofs.Common.{◌≡◌, inl, inr, ℕ, ◌+◌, ◌-◌, ◌^◌, ◌<◌, ◌≤◌, List, [], ◌∷◌, ◌++◌, length, take, drop, Option, Some, sym, ◌∙◌, ap, subst, arith, append_assoc, length-append, length-drop, length-take}
use Rattle.std.proofs.lemmas.List.{take_at, drop_at}
use Rattle.std.specs.Int.{w64, to_be_bytes}
use Rattle.nsi_disk.specs.Disk.{History, Wrote, Synced, Broke, seen, written, MayLeave, IsTornWrite, Leaves, MayStep}
use Rattle.disk_journal.specs.Batches.{batches, framed, payloads, waiting, ok_or_none, Begins, BeginsWith, Means, MeansOneOf, Settled, Waits, Grew, Held}
use Rattle.disk_journal.specs.Fronts.{length-head, small-more}
use Rattle.disk_journal.specs.Files.{begins-means, torn_behind, torn_gate, written_behind, written_gate, begins-with}
use Rattle.nsi_disk.proofs.Moments.{started, wrote, synced, sync_gave_up, write_gave_up}

pub length-framed : (p : List ℕ) → length (framed p) ≡ 9 + length p
length-framed p = omega (arith, length-append (to_be_bytes w64 (length p)) (p ++ 0 ∷ []), length-head (length p), length-append p (0 ∷ []))

pub stays_long : (at : ℕ) (piece d : List ℕ) (longest : ℕ) → at ≤ length d → length d ≤ longest → at + length piece ≤ longest → length (written at piece d) ≤ longest
stays_long at piece d longest inside long reach =
    omega (arith, length-append (take at d ++ piece) (drop (at + length piece) d), length-append (take at d) piece, length-drop (at + length piece) d, length-take at d, inside, long, reach)

pub begins_long : (ps : List (List ℕ)) (d : List ℕ) → Begins ps d → length (batches ps) < length d
begins_long ps d b = omega (arith, ap length b.is, length-append (batches ps) (b.gate ∷ b.rest))

module _ (gate longest : ℕ) (h : History) (s : Settled gate longest h) (fits : gate < 2 ^ 64) where
  pub gate_inside : gate < length (seen h)
  gate_inside = omega (arith, s.place, begins_long (payloads h) (seen h) s.reads)

  small : length (batches (payloads h)) < 2 ^ 64
  small = omega (arith, s.place, fits)

  image_means : (c : List ℕ) → MayLeave h c → Means (payloads h) c
  image_means c im = begins-means (payloads h) c small (s.images c im)

  pub append_starts : Leaves h h (Means (payloads h))
  append_starts = started h (Means (payloads h)) image_means

  behind : (n : ℕ) (now c : List ℕ) → MayLeave (Wrote (gate + 1) n now h) c → Begins (payloads h) c
  behind n now c im = torn_behind (payloads h) n im.0 c (s.images im.0 im.1) (subst (λ (g : ℕ). IsTornWrite (g + 1) n im.0 c) s.place im.2)

  pub append_gave_up : (n : ℕ) (new : Option History) → MayStep (Wrote (gate + 1) n) h new → (k : History) × (new ≡ Some k) × Leaves h k (Means (payloads h))
  append_gave_up n new may = write_gave_up (gate + 1) n h h new (Means (payloads h)) append_starts may (λ c im. begins-means (payloads h) c small (behind n [] c im))

  pub append_leaves : (n : ℕ) (now : List ℕ) → Leaves h (Wrote (gate + 1) n now h) (Means (payloads h))
  append_leaves n now = wrote (gate + 1) n now h h (Means (payloads h)) append_starts (λ c im. begins-means (payloads h) c small (behind n now c im))

  -- after the write
  pub append_held : (p : List ℕ) (next longer : ℕ) → next ≡ gate + length (framed p) → longest ≤ longer → next + 1 ≤ longer → Held p gate next longer h (Wrote (gate + 1) (length (framed p)) (written (gate + 1) (framed p) (seen h)) h)
  append_held p next longer ends grows reach =
      let ps = payloads h in
      let now = written (gate + 1) (framed p) (seen h) in
      let k = Wrote (gate + 1) (length (framed p)) now h in
      let b : BeginsWith ps p now = subst (λ (g : ℕ). BeginsWith ps p (written (g + 1) (framed p) (seen h))) (sym s.place) (written_behind ps p (seen h) s.reads) in
      let same : payloads k ≡ ps = ap ok_or_none (begins-means ps now small (begins-with ps p now b)) in
      let head = to_be_bytes w64 (length p) in
      let whole_is : now ≡ (batches ps ++ b.gate ∷ head) ++ (p ++ 0 ∷ b.rest) =
      b.is
      ∙ ap (λ (l : List ℕ). batches ps ++ b.gate ∷ l) (append_assoc head (p ++ 0 ∷ []) b.rest ∙ ap (λ (l : List ℕ). head ++ l) (append_assoc p (0 ∷ []) b.rest))
      ∙ sym (append_assoc (batches ps) (b.gate ∷ head) (p ++ 0 ∷ b.rest)) in
      let front : length (batches ps ++ b.gate ∷ head) ≡ gate + 9 = omega (arith, length-append (batches ps) (b.gate ∷ head), length-head (length p), s.place) in
      let count : next - gate - 9 ≡ length p = omega (arith, ends, length-framed p) in
      let held : waiting gate next k ≡ p =
      ap (λ (l : List ℕ). take (next - gate - 9) (drop (gate + 9) l)) whole_is
      ∙ ap (take (next - gate - 9)) (drop_at (batches ps ++ b.gate ∷ head) (p ++ 0 ∷ b.rest) (gate + 9) front)
      ∙ take_at p (0 ∷ b.rest) (next - gate - 9) (sym count) in
      record {
        waits = record {
          settled = record {
            place = s.place ∙ ap (λ (l : List (List ℕ)). length (batches l)) (sym same);
            reads = subst (λ (l : List (List ℕ)). Begins l now) (sym same) (begins-with ps p now b);
            images = λ c im. subst (λ (l : List (List ℕ)). Begins l c) (sym same) (behind (length (framed p)) now c im);
            long = stays_long (gate + 1) (framed p) (seen h) longer (omega (arith, gate_inside)) (omega (arith, s.long, grows)) (omega (arith, ends, reach));
          };
          batch = subst (λ (l : List (List ℕ)). BeginsWith l (waiting gate next k) now) (sym same) (subst (λ (q : List ℕ). BeginsWith ps q now) (sym held) b);
          ends = ends ∙ ap (λ (q : List ℕ). gate + length (framed q)) (sym held);
        };
        same = same;
        held = held;
      }

module _ (gate next longest : ℕ) (h : History) (w : Waits gate next longest h) (fits : next < 2 ^ 64) where
  abbrev P : List ℕ → Type 0
  P = MeansOneOf (payloads h) (waiting gate next h)

  small_more : length (batches (payloads h)) + 9 + length (waiting gate next h) < 2 ^ 64
  small_more = omega (arith, w.settled.place, w.ends, length-framed (waiting gate next h), fits)

  old_means : (c : List ℕ) → Begins (payloads h) c → P c
  old_means c b = inl (begins-means (payloads h) c (omega (arith, small_more)) b)

  starts : Leaves h h P
  starts = started h P (λ c im. old_means c (w.settled.images c im))

  pub sync_gives_up : (new : Option History) → MayStep Broke h new → (k : History) × (new ≡ Some k) × Leaves h k P
  sync_gives_up new may = sync_gave_up h h new P starts may (λ c im. old_means c (w.settled.images c im))

  first : Leaves h (Synced h) P
  first = synced h h P starts (old_means (seen h) w.settled.reads)

  opening : (now c : List ℕ) → MayLeave (Wrote gate 1 now (Synced h)) c → P c
  opening now c im = torn_gate (payloads h) (waiting gate next h) (seen h) c small_more w.batch (subst (λ (d : List ℕ). IsTornWrite (length (batches (payloads h))) 1 d c) im.1 (subst (λ (g : ℕ). IsTornWrite g 1 im.0 c) w.settled.place im.2))

  pub gate_gives_up : (new : Option History) → MayStep (Wrote gate 1) (Synced h) new → (k : History) × (new ≡ Some k) × Leaves h k P
  gate_gives_up new may = write_gave_up gate 1 h (Synced h) new P first may (λ c im. opening [] c im)

  abbrev pub opened : List ℕ
  opened = written gate (1 ∷ []) (seen h)

  second : Leaves h (Wrote gate 1 opened (Synced h)) P
  second = wrote gate 1 opened h (Synced h) P first (λ c im. opening opened c im)

  pub end_gives_up : (new : Option History) → MayStep Broke (Wrote gate 1 opened (Synced h)) new → (k : History) × (new ≡ Some k) × Leaves h k P
  end_gives_up new may = sync_gave_up h (Wrote gate 1 opened (Synced h)) new P second may (λ c im. opening opened c im)

  begins : Begins (payloads h ++ waiting gate next h ∷ []) opened
  begins = subst (λ (g : ℕ). Begins (payloads h ++ waiting gate next h ∷ []) (written g (1 ∷ []) (seen h))) (sym w.settled.place) (written_gate (payloads h) (waiting gate next h) (seen h) w.batch)

  is_more : length (batches (payloads h ++ waiting gate next h ∷ [])) < 2 ^ 64
  is_more = omega (arith, small-more (payloads h) (waiting gate next h), small_more)

  pub end_leaves : Leaves h (Synced (Wrote gate 1 opened (Synced h))) P
  end_leaves = synced h (Wrote gate 1 opened (Synced h)) P second (inr (begins-means _ opened is_more begins))

  pub end_grew : Grew (waiting gate next h) next longest h (Synced (Wrote gate 1 opened (Synced h)))
  end_grew =
      let more : payloads (Synced (Wrote gate 1 opened (Synced h))) ≡ payloads h ++ waiting gate next h ∷ [] = ap ok_or_none (begins-means _ opened is_more begins) in
      let inside = begins_long (payloads h) (seen h) w.settled.reads in
      record {
        settled = record {
          place = omega (arith, ap (λ (l : List (List ℕ)). length (batches l)) more, small-more (payloads h) (waiting gate next h), w.settled.place, w.ends, length-framed (waiting gate next h));
          reads = subst (λ (l : List (List ℕ)). Begins l opened) (sym more) begins;
          images = λ c is. subst (λ (f : List ℕ). Begins (payloads (Synced (Wrote gate 1 opened (Synced h)))) f) (sym is) (subst (λ (l : List (List ℕ)). Begins l opened) (sym more) begins);
          long = stays_long gate (1 ∷ []) (seen h) longest (omega (arith, inside, w.settled.place)) w.settled.long (omega (arith, inside, w.settled.place, w.settled.long));
        };
        more = more;
      }
