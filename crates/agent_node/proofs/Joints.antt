-- The first door, and the first wires, to an agent.
use Rattle.std.proofs.Common.{ℕ, ◌≡◌, List, [], ◌∷◌, ◌++◌, Bool, Option, Some, None, if◌then◌else◌, ◌==◌, refl, sym, ap, ◌∙◌, map, eq-eqb, ne_eqb, true, false, inl, inr, length, take, drop, append-nil, arith}
use Rattle.std.proofs.lemmas.List.{drop_all, take_all}
use Rattle.std.proofs.lemmas.Bool.{cases_eq}
use Rattle.nsi_primitive.specs.declared.message.Identity.{Identity}
use Rattle.nsi_primitive.specs.declared.message.Message.{Message}
use Rattle.nsi_primitive.specs.declared.message.Parcel.{Parcel}
use Rattle.agent_link.specs.Link.{Wire}
use Rattle.agent_node.specs.declared.links.Link.{Link}
use Rattle.agent_node.specs.Doors.{Door, change_first}
use Rattle.agent_node.specs.Passing.{Plug, let_through, plug_to, crossed, is_queued, says, says_all, all_idle, others, learns}
use Rattle.agent_node.specs.Linked.{door_of, plug_of, doors, plugs, Linked, HasSameLinks}

pub change_nil : (n : ℕ) (f : Door → Door) → change_first n f [] ≡ []
unfolding change_first
change_nil n f = refl

pub change_here : (n : ℕ) (f : Door → Door) (d : Door) (ds : List Door) → d.other ≡ n → change_first n f (d ∷ ds) ≡ f d ∷ ds
unfolding change_first
change_here n f d ds e = rw (eq-eqb d.other n e) refl

pub change_there : (n : ℕ) (f : Door → Door) (d : Door) (ds : List Door) → (d.other ≡ n → ⊥) → change_first n f (d ∷ ds) ≡ d ∷ change_first n f ds
unfolding change_first
change_there n f d ds e = rw (ne_eqb d.other n e) refl

pub through_nil : (n : ℕ) → let_through n [] ≡ []
unfolding let_through
through_nil n = refl

pub through_here : (n : ℕ) (d : Door) (ds : List Door) → d.other ≡ n → let_through n (d ∷ ds) ≡ d.out
unfolding let_through
through_here n d ds e = rw (eq-eqb d.other n e) refl

pub through_there : (n : ℕ) (d : Door) (ds : List Door) → (d.other ≡ n → ⊥) → let_through n (d ∷ ds) ≡ let_through n ds
unfolding let_through
through_there n d ds e = rw (ne_eqb d.other n e) refl

pub plug_nil : (n : ℕ) → plug_to n [] ≡ None
unfolding plug_to
plug_nil n = refl

pub plug_here : (n : ℕ) (p : Plug) (ps : List Plug) → p.other ≡ n → plug_to n (p ∷ ps) ≡ Some (p.out, p.inc)
unfolding plug_to
plug_here n p ps e = rw (eq-eqb p.other n e) refl

pub plug_there : (n : ℕ) (p : Plug) (ps : List Plug) → (p.other ≡ n → ⊥) → plug_to n (p ∷ ps) ≡ plug_to n ps
unfolding plug_to
plug_there n p ps e = rw (ne_eqb p.other n e) refl

pub uncrossed : (o : Option (Wire × Wire)) (a b : Wire) → Some (a, b) ≡ crossed o → o ≡ Some (b, a)
uncrossed None a b e = absurd (cc)
uncrossed (Some w) a b e = let p : (a, b) ≡ (w.1, w.0) = cc in ap (λ (q : Wire × Wire). Some (q.1, q.0)) (sym p)

---- No link, and no link to an agent

pub none_changed : (n : ℕ) (f : Door → Door) (ls : List Link) → length ls ≡ 0 → change_first n f (doors ls) ≡ doors ls
none_changed n f [] e = change_nil n f
none_changed n f (l ∷ ls) e = absurd (omega (arith, e))

pub no_plug : (n : ℕ) (ls : List Link) (w : Wire × Wire) → length ls ≡ 0 → plug_to n (plugs ls) ≡ Some w → ⊥
no_plug n [] w e h = absurd (let p = sym (plug_nil n) ∙ h in cc)
no_plug n (l ∷ ls) w e h = absurd (omega (arith, e))

pub unplugged : (n : ℕ) (f : Door → Door) (ls : List Link) → plug_to n (plugs ls) ≡ None → change_first n f (doors ls) ≡ doors ls
unplugged n f [] e = change_nil n f
unplugged n f (l ∷ ls) e = elim (cases_eq l.other n) [
  | inl h ↦ absurd (let p = sym (plug_here n (plug_of l) (plugs ls) h) ∙ e in cc)
  | inr h ↦ change_there n f (door_of l) (doors ls) h ∙ ap (λ ds. door_of l ∷ ds) (unplugged n f ls (sym (plug_there n (plug_of l) (plugs ls) h) ∙ e))
]

pub not_crossed : (o : Option (Wire × Wire)) → None ≡ crossed o → o ≡ None
not_crossed None e = refl
not_crossed (Some w) e = absurd (cc)

pub no_other : (n m : ℕ) (f : Door → Door) (ls ks : List Link) → length ls ≡ 0 → plug_to n (plugs ls) ≡ crossed (plug_to m (plugs ks)) → change_first m f (doors ks) ≡ doors ks
no_other n m f [] ks e h = unplugged m f ks (not_crossed (plug_to m (plugs ks)) (sym (plug_nil n) ∙ h))
no_other n m f (l ∷ ls) ks e h = absurd (omega (arith, e))

---- No doors

pub none_queued : (i : Identity) (ls : List Link) → length ls ≡ 0 → is_queued i (doors ls) ≡ false
none_queued i [] e = refl
none_queued i (l ∷ ls) e = absurd (omega (arith, e))

pub none_busy : (ls : List Link) → length ls ≡ 0 → all_idle (doors ls) ≡ true
none_busy [] e = refl
none_busy (l ∷ ls) e = absurd (omega (arith, e))

---- Messages

pub says_next : (agent_of : List ℕ → Option ℕ) (m : Message) (ms : List Message) (ds : List Door) → says_all agent_of (m ∷ ms) ds ≡ says_all agent_of ms (says agent_of m ds)
unfolding says_all
says_next agent_of m ms ds = refl

---- To whom the links go

abbrev other_by : Plug → ℕ
other_by p = p.other

others_of_plugs : (ls : List Link) → others (doors ls) ≡ map other_by (plugs ls)
others_of_plugs [] = refl
others_of_plugs (l ∷ ls) = ap (λ ns. l.other ∷ ns) (others_of_plugs ls)

pub same_others : (ks ls : List Link) → plugs ks ≡ plugs ls → others (doors ks) ≡ others (doors ls)
same_others ks ls e = others_of_plugs ks ∙ (ap (map other_by) e ∙ sym (others_of_plugs ls))

pub same_links_twice : (a b c : Linked) → HasSameLinks a b → HasSameLinks b c → HasSameLinks a c
same_links_twice a b c p q = record { plugs = q.plugs ∙ p.plugs; others = q.others ∙ p.others }

others_kept : (b : Bool) (d : Door) (n : ℕ) (ds es : List Door) → n ≡ d.other → others es ≡ others ds → (ps : List Parcel) → others (if b then learns ps d ∷ ds else d ∷ es) ≡ others (d ∷ ds)
others_kept true d n ds es e h ps = refl
others_kept false d n ds es e h ps = ap (λ ns. d.other ∷ ns) h

pub others_learnt : (n : ℕ) (ps : List Parcel) (ds : List Door) → others (change_first n (learns ps) ds) ≡ others ds
unfolding change_first
others_learnt n ps [] = refl
others_learnt n ps (d ∷ ds) = others_kept (d.other == n) d d.other ds (change_first n (learns ps) ds) refl (others_learnt n ps ds) ps

---- A vector's links as a slice

pub whole_again : (new old : List Link) (n : ℕ) → length new ≡ length old → length old ≡ n → take n (new ++ drop (length new) old) ≡ new
whole_again new old n e f = ap (λ ks. take n (new ++ ks)) (drop_all (length new) old (omega (arith, e))) ∙ (ap (take n) (append-nil new) ∙ take_all n new (omega (arith, e, f)))

pub ruleset joints = (change_nil, change_here, change_there, through_nil, through_here, through_there, plug_nil, plug_here, plug_there, uncrossed, none_changed, no_other)
