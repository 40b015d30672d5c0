-- The counts of a shelf that disks were given back to.
use Rattle.std.proofs.Common.{ℕ, ◌+◌, ◌<◌, ◌≤◌, ◌-◌, ◌≡◌, inl, inr, refl, arith, List, [], ◌∷◌}
use Rattle.nsi_disk.specs.ShelfCounts.{Raised}
use Rattle.agent_node.specs.Kept.{Kept}
use Rattle.agent_threads.specs.Nets.{AreCalm}
use Rattle.agent_threads.specs.Made.{HasFailed}
use Rattle.agent_threads.specs.declared.fault.RunFault.{RunFault}
use Rattle.nsi_disk.specs.declared.shelf.ShelfError.{ShelfError}
use Rattle.net_run.specs.Begun.{faults_among, refusal_of}
use Rattle.net_run.specs.Shelves.{HasRisen, IsStartFault}

pub raised_up : (a x b : ℕ) → Raised a x b → a ≤ b
raised_up a x b (inl p) = omega (arith, p)
raised_up a x b (inr p) = p.1

pub risen_then : (a b c : ℕ) → HasRisen a b → b ≤ c → HasRisen a c
risen_then a b c (x, h, inl p) q = (c - a, omega (arith, h, p, q), inl (omega (arith, h, p, q)))
risen_then a b c (x, h, inr p) q = (x, h, inr (p.0, omega (arith, p.1, q)))

pub risen_after : (a b c : ℕ) → a ≤ b → HasRisen b c → HasRisen a c
risen_after a b c q (x, h, inl p) = (c - a, omega (arith, h, p, q), inl (omega (arith, h, p, q)))
risen_after a b c q (x, h, inr p) = ((b - a) + x, omega (arith, h), inr (omega (arith, p.0, q), omega (arith, p.1, q)))

pub risen_more : (a b : ℕ) → a < b → HasRisen a b
risen_more a b h = (b - a, omega (arith, h), inl (omega (arith, h)))

-- why a start failed, seen from before it and from behind it
pub start_fault : (most f g h s r q : ℕ) (e : RunFault) → IsStartFault most f g s r e → g ≤ h → r ≤ q → IsStartFault most f h s q e
start_fault most f g h s r q RunFault.Long i x y = i
start_fault most f g h s r q RunFault.WriteFault i x y = i
start_fault most f g h s r q (RunFault.NotAJournal a place) i x y = i
start_fault most f g h s r q (RunFault.DiskFault a) (l, b, up) x y = (l, risen_then f g h b x, omega (arith, up, y))
start_fault most f g h s r q RunFault.NoMemory i x y = (omega (arith, i.0, x), omega (arith, i.1, y))

-- the count of stops doesn't fall
pub start_rises : (most f g s r : ℕ) (e : RunFault) → IsStartFault most f g s r e → s ≤ r
start_rises most f g s r RunFault.Long i = absurd i
start_rises most f g s r RunFault.WriteFault i = absurd i
start_rises most f g s r (RunFault.NotAJournal a place) i = absurd i
start_rises most f g s r (RunFault.DiskFault a) i = i.2
start_rises most f g s r RunFault.NoMemory i = i.1

---- Agents

-- no call has failed
pub calm_faults : (xs ys : List Kept) → AreCalm xs ys → faults_among ys ≡ faults_among xs
calm_faults [] [] c = refl
calm_faults [] (y ∷ ys) c = absurd c
calm_faults (x ∷ xs) [] c = absurd c
calm_faults (x ∷ xs) (y ∷ ys) c =
    let here = c.0.faults in
    let there = calm_faults xs ys c.1 in
    omega (arith, here, there)

pub some_failed : (a : ℕ) (ks : List Kept) → HasFailed a ks → 0 < faults_among ks
some_failed a [] h = absurd h
some_failed a (k ∷ ks) (inl p) = omega (arith, p.1)
some_failed a (k ∷ ks) (inr p) = omega (arith, some_failed a ks p)

-- why an agent has no disk
pub refused : (most a f g s r : ℕ) (e : ShelfError) → a < most → (e ≡ ShelfError.Failed → f < g) → f ≤ g → s ≤ r → IsStartFault most f g s r (refusal_of a e)
refused most a f g s r ShelfError.Failed l b up on = (l, risen_more f g (b refl), on)
refused most a f g s r ShelfError.NoMemory l b up on = (up, on)
