-- What the searches backwards keep.
use Rattle.std.proofs.Common.{◌≡◌, ◌≢◌, ℕ, ◌<◌, ◌⊎◌, inl, inr, List, [], ◌∷◌, ◌++◌, Bool, true, false, ◌||◌, Option, Some, None, length, slice_get, replicate, sym, ◌∙◌, refl, subst, ap, arith}
use Rattle.std.proofs.lemmas.List.{get_or-set_same, get_or-set_other, get_or-replicate}
use Rattle.std.proofs.Math.ListN.{get_or-eq_default, length-replicate}
use Rattle.std.proofs.lemmas.Bool.{cases_lt, cases_eq}
use Rattle.stp_topology.specs.declared.network.Network.{Network}
use Rattle.stp_topology.specs.Network.{partner_of}
use Rattle.path_segments.specs.declared.child_search.Remaining.{Remaining}
use Rattle.path_segments.specs.declared.child_search.Remaining.TheVariants.{All, Only, Nothing}
use Rattle.path_segments.specs.declared.search.Step.{Step}
use Rattle.path_segments.specs.Paths.{IsOwned}
use Rattle.path_segments.specs.Steps.{at, open_places}
use Rattle.path_segments.specs.Walks.{Walk, AreMutual, In}
use Rattle.path_segments.specs.Walks.Walk.{last, more}
use Rattle.path_segments.specs.Searches.{IsEntered, IsExpanded, IsNoted, IsReached, Closed, Leads, Searching, Changes, Entry, Marks, listed, Enters, Grows, what_remains}
use Rattle.path_segments.proofs.Members.{in_front, in_behind, in_cases, in_one, listed_in, in_listed}

pub not_none : {A : Type 0} (x : A) (o : Option A) → o ≡ Some x → o ≡ None → ⊥
not_none x o h g = clash (sym g ∙ h)
  where
    clash : None ≡ Some x → ⊥
    clash e = cc

pub noted_kept : (entry : ℕ → Type 0) (s : Step) (old new : ℕ → Option Step) → Changes entry s old new → (p : ℕ) → IsNoted old p → IsNoted new p
noted_kept entry s old new c p n = elim (c p) [
  | inl e ↦ (n.0, e ∙ n.1)
  | inr e ↦ (s, e.1)
]

pub changes_join : (one two all : ℕ → Type 0) (s : Step) (old mid new : ℕ → Option Step) → ((p : ℕ) → one p → all p) → ((p : ℕ) → two p → all p)
    → Changes one s old mid → Changes two s mid new → Changes all s old new
changes_join one two all s old mid new f g c d p = elim (d p) [
  | inl e ↦ elim (c p) [ inl h ↦ inl (e ∙ h) | inr h ↦ inr (h.0, e ∙ h.1, f p h.2) ]
  | inr e ↦ elim (c p) [ inl h ↦ inr (sym h ∙ e.0, e.1, g p e.2) | inr h ↦ absurd (not_none s (mid p) h.1 e.0) ]
]

pub changes_more : (one all : ℕ → Type 0) (s : Step) (old new : ℕ → Option Step) → ((p : ℕ) → one p → all p) → Changes one s old new → Changes all s old new
changes_more one all s old new f c p = elim (c p) [ inl h ↦ inl h | inr h ↦ inr (h.0, h.1, f p h.2) ]

marks_changes : (grew : Bool) (s : Step) (x : ℕ) (old new : List (Option Step)) → x < length old → Marks grew s x old new → Changes (λ p. (p ≢ s.exit) × (p ≡ x)) s (at old) (at new)
marks_changes false s x old new l m p = inl (ap (λ z. at z p) m.0)
marks_changes true s x old new l m p = elim (cases_eq p x) [
  | inl e ↦ inr (ap (at old) e ∙ m.1, ap (at new) e ∙ (ap (λ z. at z x) m.0 ∙ get_or-set_same old x (Some s) None l), ((λ i. m.2 (sym e ∙ i)), e))
  | inr e ↦ inl (ap (λ z. at z p) m.0 ∙ get_or-set_other old x p (Some s) None e)
]

marks_noted : (grew : Bool) (s : Step) (x : ℕ) (old new : List (Option Step)) → x < length old → Marks grew s x old new → IsNoted (at new) x ⊎ (x ≡ s.exit)
marks_noted true s x old new l m = inl (s, ap (λ z. at z x) m.0 ∙ get_or-set_same old x (Some s) None l)
marks_noted false s x old new l m = elim m.1 [ inl e ↦ inr e | inr n ↦ inl (n.0, ap (λ z. at z x) m.0 ∙ n.1) ]

pub enters_start : (t : Network) (s : Step) (exit : ℕ) (old : ℕ → Option Step) (before : List ℕ) → Enters t s exit [] old old before before
enters_start t s exit old before = record {
  changes = λ p. inl refl;
  noted = λ p i. absurd i;
  onward = λ p z i. absurd i;
  kept = λ z i. i;
  only = λ z i. inl i;
}

pub enters_skip : (t : Network) (s : Step) (exit x : ℕ) (points : List ℕ) (old new : ℕ → Option Step) (before after : List ℕ) → x ≡ exit
    → Enters t s exit points old new before after → Enters t s exit (points ++ x ∷ []) old new before after
enters_skip t s exit x points old new before after same h = record {
  changes = changes_more _ _ s old new (λ p e. (e.0, e.1, in_front p points (x ∷ []) e.2)) h.changes;
  noted = λ p i n. h.noted p (old_one p i n) n;
  onward = λ p z i n j. h.onward p z (old_one p i n) n j;
  kept = h.kept;
  only = λ z i. elim (h.only z i) [ inl g ↦ inl g | inr g ↦ inr (g.0, in_front g.0 points (x ∷ []) g.1, g.2, g.3) ];
}
  where
    old_one : (p : ℕ) → In p (points ++ x ∷ []) → p ≢ exit → In p points
    old_one p i n = elim (in_cases p points (x ∷ []) i) [ inl g ↦ g | inr g ↦ absurd (n (in_one p x g ∙ same)) ]

pub enters_next : (t : Network) (s : Step) (exit x : ℕ) (points : List ℕ) (grew : Bool) (old : ℕ → Option Step) (mid new : List (Option Step)) (before after now : List ℕ) → x ≢ exit
    → x < length mid → Marks grew s x mid new → now ≡ after ++ listed (partner_of t x)
    → Enters t s exit points old (at mid) before after → Enters t s exit (points ++ x ∷ []) old (at new) before now
enters_next t s exit x points grew old mid new before after now apart l m push h = record {
  changes = changes_join _ _ _ s old (at mid) (at new) (λ p e. (e.0, e.1, in_front p points (x ∷ []) e.2))
      (λ p e. (e.0, (λ i. apart (sym e.1 ∙ i)), in_behind p points (x ∷ []) (inl e.1))) h.changes step;
  noted = λ p i n. elim (in_cases p points (x ∷ []) i) [
    | inl g ↦ elim (h.noted p g n) [ inl k ↦ inl (noted_kept _ s (at mid) (at new) step p k) | inr k ↦ inr k ]
    | inr g ↦ subst (λ z. IsNoted (at new) z ⊎ (z ≡ s.exit)) (sym (in_one p x g)) (marks_noted grew s x mid new l m)
  ];
  onward = λ p z i n j. subst (In z) (sym push) (elim (in_cases p points (x ∷ []) i) [
    | inl g ↦ in_front z after (listed (partner_of t x)) (h.onward p z g n j)
    | inr g ↦ in_behind z after (listed (partner_of t x)) (listed_in (partner_of t x) z (ap (partner_of t) (sym (in_one p x g)) ∙ j))
  ]);
  kept = λ z i. subst (In z) (sym push) (in_front z after (listed (partner_of t x)) (h.kept z i));
  only = λ z i. elim (in_cases z after (listed (partner_of t x)) (subst (In z) push i)) [
    | inl g ↦ elim (h.only z g) [ inl k ↦ inl k | inr k ↦ inr (k.0, in_front k.0 points (x ∷ []) k.1, k.2, k.3) ]
    | inr g ↦ inr (x, in_behind x points (x ∷ []) (inl refl), apart, in_listed (partner_of t x) z g)
  ];
}
  where
    step : Changes (λ p. (p ≢ s.exit) × (p ≡ x)) s (at mid) (at new)
    step = marks_changes grew s x mid new l m

-- a walk by one segment more
walk_here : (t : Network) (among : ℕ → Type 0) (exit y p b : ℕ) → Leads t among exit y → among b → IsOwned t b p y → p ≢ y → Walk t among exit p
walk_here t among exit y p b (inl h) m o e = last b p m (subst (λ z. IsOwned t b p z) h o) (λ i. e (i ∙ sym h))
walk_here t among exit y p b (inr h) m o e = more b p y h.0 m o e h.1 h.2

-- the points that are entered now are the owner's
abbrev pub AreOwners : Network → (ℕ → Type 0) → ℕ → List ℕ → Type 0
AreOwners t among y points = (p : ℕ) → In p points → p ≢ y → (b : ℕ) × among b × IsOwned t b p y

abbrev pub NowEntered : Network → (ℕ → Type 0) → ℕ → List ℕ → (ℕ → Remaining) → (ℕ → Remaining) → Type 0
NowEntered t among y points old new = (b p : ℕ) → among b → slice_get t.owners p ≡ Some b → IsEntered (new b) p → IsEntered (old b) p ⊎ (In p points × (p ≢ y))

abbrev pub StillExpanded : (ℕ → Remaining) → (ℕ → Remaining) → Type 0
StillExpanded old new = (b z : ℕ) → IsExpanded (old b) z → IsExpanded (new b) z

abbrev pub OnlyOwned : Network → (ℕ → Remaining) → Type 0
OnlyOwned t remaining = (b z : ℕ) → remaining b ≡ Only z → slice_get t.owners z ≡ Some b

pub enter_changes : (t : Network) (among : ℕ → Type 0) (s : Step) (y : ℕ) (points : List ℕ) (old new : ℕ → Option Step) (remaining : ℕ → Remaining) (before after : List ℕ)
    → AreOwners t among y points → Enters t s y points old new before after → Searching t among s.exit old remaining (before ++ y ∷ []) → Changes (Entry t among s) s old new
enter_changes t among s y points old new remaining before after owners e h =
    changes_more _ _ s old new (λ p i. (i.0, (let o = owners p i.2 i.1 in walk_here t among s.exit y p o.0 (h.leads y (in_behind y before (y ∷ []) (inl refl))) o.1 o.2 i.1))) e.changes

pub enter_searching : (t : Network) (among : ℕ → Type 0) (s : Step) (y : ℕ) (points : List ℕ) (old new : ℕ → Option Step) (remaining now : ℕ → Remaining) (before after : List ℕ)
    → AreMutual t → AreOwners t among y points → NowEntered t among y points remaining now → StillExpanded remaining now → IsReached t among now y → OnlyOwned t now
    → Enters t s y points old new before after → Searching t among s.exit old remaining (before ++ y ∷ []) → Searching t among s.exit new now after
enter_searching t among s y points old new remaining now before after paired owners entered expanded reached single e h = record {
  closed = record {
    noted = λ b p m o i. elim (entered b p m o i) [
      | inl g ↦ elim (h.closed.noted b p m o g) [ inl k ↦ inl (noted_kept _ s old new e.changes p k) | inr k ↦ inr k ]
      | inr g ↦ e.noted p g.0 g.1
    ];
    onward = λ b p z m o i j. elim (entered b p m o i) [
      | inl g ↦ still z (h.closed.onward b p z m o g j)
      | inr g ↦ inl (e.onward p z g.0 g.1 j)
    ];
    only = single;
  };
  reached = still s.exit h.reached;
  leads = λ z i. elim (e.only z i) [
    | inl g ↦ h.leads z (in_front z before (y ∷ []) g)
    | inr g ↦ (let o = owners g.0 g.1 g.2 in
        inr (g.0, paired g.0 z g.3, walk_here t among s.exit y g.0 o.0 (h.leads y (in_behind y before (y ∷ []) (inl refl))) o.1 o.2 g.2))
  ];
}
  where
    still : (z : ℕ) → In z (before ++ y ∷ []) ⊎ IsReached t among remaining z → In z after ⊎ IsReached t among now z
    still z (inl i) = elim (in_cases z before (y ∷ []) i) [
      | inl g ↦ inl (e.kept z g)
      | inr g ↦ inr (subst (IsReached t among now) (sym (in_one z y g)) reached)
    ]
    still z (inr r) = inr (λ b m o. expanded b z (r b m o))

pub enter_nothing : (t : Network) (among : ℕ → Type 0) (s : Step) (y : ℕ) (old : ℕ → Option Step) (remaining : ℕ → Remaining) (before : List ℕ)
    → AreMutual t → IsReached t among remaining y → Searching t among s.exit old remaining (before ++ y ∷ []) → Searching t among s.exit old remaining before
enter_nothing t among s y old remaining before paired reached h =
    enter_searching t among s y [] old old remaining remaining before before paired (λ p i. absurd i) (λ b p m o i. inl i) (λ b z i. i) reached h.closed.only (enters_start t s y old before) h

pub search_start : (t : Network) (among : ℕ → Type 0) (exit : ℕ) (next : ℕ → Option Step) (remaining : ℕ → Remaining)
    → Closed t among (IsNoted next) remaining [] → Searching t among exit next remaining (exit ∷ [])
search_start t among exit next remaining h = record {
  closed = record { noted = λ b p m o i. inl (h.noted b p m o i); onward = λ b p z m o i j. elim (h.onward b p z m o i j) [ inl g ↦ absurd g | inr g ↦ inr g ]; only = h.only };
  reached = inl (inl refl);
  leads = λ y i. inl (in_one y exit i);
}

expanded_entered : (r : Remaining) (y p : ℕ) → IsExpanded r y → p ≢ y → IsEntered r p
expanded_entered r y p (inl h) e = inl h
expanded_entered r y p (inr h) e = inr (y, h, e)

walk_entered : (t : Network) (among noted : ℕ → Type 0) (remaining : ℕ → Remaining) (exit p : ℕ) → AreMutual t → Closed t among noted remaining [] → IsReached t among remaining exit → Walk t among exit p
    → (b : ℕ) × among b × (slice_get t.owners p ≡ Some b) × IsEntered (remaining b) p
walk_entered t among noted remaining exit p paired h r (last b p' m o e) = (b, m, o.0, expanded_entered (remaining b) exit p' (r b m o.1) e)
walk_entered t among noted remaining exit p paired h r (more b p' x y m o e j w) =
    let g = walk_entered t among noted remaining exit y paired h r w in
    elim (h.onward g.0 y x g.1 g.2 g.3 (paired x y j)) [
      | inl k ↦ absurd k
      | inr k ↦ (b, m, o.0, expanded_entered (remaining b) x p' (k b m o.1) e)
    ]

-- when no exit is at hand, each point with a walk is noted
pub walk_noted : (t : Network) (among noted : ℕ → Type 0) (remaining : ℕ → Remaining) (exit p : ℕ) → AreMutual t → Closed t among noted remaining [] → IsReached t among remaining exit → Walk t among exit p → noted p
walk_noted t among noted remaining exit p paired h r w = let g = walk_entered t among noted remaining exit p paired h r w in h.noted g.0 p g.1 g.2 g.3

pub search_end : (t : Network) (among : ℕ → Type 0) (s : Step) (next : ℕ → Option Step) (remaining : ℕ → Remaining) → AreMutual t → Searching t among s.exit next remaining []
    → (p : ℕ) → Entry t among s p → IsNoted next p
search_end t among s next remaining paired h p e = elim h.reached [
  | inl g ↦ absurd g
  | inr g ↦ elim (walk_noted t among (λ q. IsNoted next q ⊎ (q ≡ s.exit)) remaining s.exit p paired h.closed g e.1) [ inl k ↦ k | inr k ↦ absurd (e.0 k) ]
]

pub search_none : (t : Network) (among : ℕ → Type 0) (s : Step) (next : ℕ → Option Step) (remaining : ℕ → Remaining) → AreMutual t → IsReached t among remaining s.exit
    → Closed t among (IsNoted next) remaining [] → (p : ℕ) → Entry t among s p → IsNoted next p
search_none t among s next remaining paired r h p e = walk_noted t among (IsNoted next) remaining s.exit p paired h r e.1

pub closed_noted : (t : Network) (among : ℕ → Type 0) (exit : ℕ) (next : ℕ → Option Step) (remaining : ℕ → Remaining) → IsNoted next exit → Searching t among exit next remaining []
    → Closed t among (IsNoted next) remaining []
closed_noted t among exit next remaining n h = record {
  noted = λ b p m o i. elim (h.closed.noted b p m o i) [ inl g ↦ g | inr g ↦ subst (IsNoted next) (sym g) n ];
  onward = h.closed.onward;
  only = h.closed.only;
}

pub same_agent : (a b : ℕ) → Some a ≡ Some b → a ≡ b
same_agent a b e = cc

pub only_one : (r : Remaining) (x z : ℕ) → r ≡ Only x → r ≡ Only z → x ≡ z
only_one r x z h g = one (sym h ∙ g)
  where
    one : Only x ≡ Only z → x ≡ z
    one e = cc

only_all : (r : Remaining) (x p : ℕ) → r ≢ Nothing → IsExpanded r x → IsEntered r p → p ≢ x
only_all r x p n (inl h) i = absurd (n h)
only_all r x p n (inr h) (inl i) = absurd (n i)
only_all r x p n (inr h) (inr i) = λ e. i.2 (e ∙ only_one r x i.0 h i.1)

pub closed_apart : (t : Network) (among : ℕ → Type 0) (exit owner : ℕ) (next : ℕ → Option Step) (remaining : ℕ → Remaining) → slice_get t.owners exit ≡ Some owner → remaining owner ≢ Nothing
    → Searching t among exit next remaining [] → Closed t among (IsNoted next) remaining []
closed_apart t among exit owner next remaining is some h = record {
  noted = λ b p m o i. elim (h.closed.noted b p m o i) [
    | inl g ↦ g
    | inr g ↦ (let there : slice_get t.owners exit ≡ Some b = subst (λ z. slice_get t.owners z ≡ Some b) g o in
        absurd (only_all (remaining b) exit p (subst (λ z. remaining z ≢ Nothing) (same_agent owner b (sym is ∙ there)) some) (reached b m there) i g))
  ];
  onward = h.closed.onward;
  only = h.closed.only;
}
  where
    reached : IsReached t among remaining exit
    reached = elim h.reached [ inl g ↦ absurd g | inr g ↦ g ]

all_there : (n b : ℕ) → what_remains (replicate n All) b ≡ All
all_there n b = elim (cases_lt b n) [
  | inl l ↦ get_or-replicate n b All All l
  | inr l ↦ get_or-eq_default (replicate n All) All (omega (arith, length-replicate n All))
]

pub not_only : (r : Remaining) (z : ℕ) → r ≡ All → r ≡ Only z → ⊥
not_only r z h g = not_all (sym h ∙ g)
  where
    not_all : All ≡ Only z → ⊥
    not_all e = cc

none_entered : (r : Remaining) (p : ℕ) → r ≡ All → IsEntered r p → ⊥
none_entered r p h (inl g) = not_all (sym h ∙ g)
  where
    not_all : All ≡ Nothing → ⊥
    not_all e = cc
none_entered r p h (inr g) = not_only r g.0 h g.1

pub closed_none : (t : Network) (among noted : ℕ → Type 0) (n : ℕ) (remaining : List Remaining) → remaining ≡ replicate n All → Closed t among noted (what_remains remaining) []
closed_none t among noted n remaining e = record {
  noted = λ b p m o i. absurd (none_entered (what_remains remaining b) p (all b) i);
  onward = λ b p z m o i j. absurd (none_entered (what_remains remaining b) p (all b) i);
  only = λ b z h. absurd (not_only (what_remains remaining b) z (all b) h);
}
  where
    all : (b : ℕ) → what_remains remaining b ≡ All
    all b = ap (λ z. what_remains z b) e ∙ all_there n b

pub grows_same : (old : List (Option Step)) → Grows false old old
grows_same old = record { same_length = refl; fewer = λ e. absurd (clash e); same = λ e. refl }
  where
    clash : false ≡ true → ⊥
    clash e = cc

pub grows_join : (a b : Bool) (old mid new : List (Option Step)) → Grows a old mid → Grows b mid new → Grows (a || b) old new
grows_join false false old mid new h g = record { same_length = g.same_length ∙ h.same_length; fewer = λ e. absurd (clash e); same = λ e. g.same refl ∙ h.same refl }
  where
    clash : false ≡ true → ⊥
    clash e = cc
grows_join true false old mid new h g = record { same_length = g.same_length ∙ h.same_length; fewer = λ e. subst (λ z. open_places z < open_places old) (sym (g.same refl)) (h.fewer refl); same = λ e. absurd (clash e) }
  where
    clash : true ≡ false → ⊥
    clash e = cc
grows_join false true old mid new h g = record { same_length = g.same_length ∙ h.same_length; fewer = λ e. subst (λ z. open_places new < open_places z) (h.same refl) (g.fewer refl); same = λ e. absurd (clash e) }
  where
    clash : true ≡ false → ⊥
    clash e = cc
grows_join true true old mid new h g = record { same_length = g.same_length ∙ h.same_length; fewer = λ e. let i = h.fewer refl in let j = g.fewer refl in omega (arith, i, j); same = λ e. absurd (clash e) }
  where
    clash : true ≡ false → ⊥
    clash e = cc

pub leads_below : (t : Network) (among : ℕ → Type 0) (exit n y : ℕ) → exit < n → AreMutual t → ((a b : ℕ) → partner_of t a ≡ Some b → b < n) → Leads t among exit y → y < n
leads_below t among exit n y l paired within (inl h) = subst (λ z. z < n) (sym h) l
leads_below t among exit n y l paired within (inr h) = within h.0 y (paired y h.0 h.1)

pub last_at_hand : (y : ℕ) (before exits : List ℕ) → exits ≡ before ++ y ∷ [] → In y exits
last_at_hand y before exits e = subst (In y) (sym e) (in_behind y before (y ∷ []) (inl refl))
