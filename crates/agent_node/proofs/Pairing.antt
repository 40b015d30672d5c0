-- Two agents with one link.
use Rattle.std.proofs.Common.{ℕ, ◌≡◌, List, [], ◌∷◌, Some, refl, sym, ap, ◌∙◌}
use Rattle.agent_link.specs.Link.{Half, OutHalf, Wire}
use Rattle.agent_node.specs.Passing.{Plug, plug_to, crossed}
use Rattle.agent_node.specs.Kept.{Kept, AreLinked, plug_by}
use Rattle.agent_node.proofs.Joints.{plug_here}

-- they stay linked as long as neither has other wires
pub linked_still : (a b c d : Kept) → c.plugs ≡ a.plugs → c.seat.number ≡ a.seat.number → d.plugs ≡ b.plugs → d.seat.number ≡ b.seat.number → AreLinked a b → AreLinked c d
linked_still a b c d p n q m l =
    ap (λ (ps : List Plug). plug_to d.seat.number ps) p
    ∙ (ap (λ (k : ℕ). plug_to k a.plugs) m
    ∙ (l ∙ sym (ap (λ (ps : List Plug). crossed (plug_to c.seat.number ps)) q ∙ ap (λ (k : ℕ). crossed (plug_to k b.plugs)) n)))

one_plug : (n : ℕ) (out : OutHalf) (inc : Half) → plug_to n (plug_by n out inc ∷ []) ≡ Some (out.wire, inc.wire)
one_plug n out inc = plug_here n (plug_by n out inc) [] refl

-- one link between them, and its ends are pairs
pub paired : (a b : Kept) (n m : ℕ) (out : OutHalf) (heard : Half) (back : OutHalf) (told : Half) → a.seat.number ≡ n → b.seat.number ≡ m → a.plugs ≡ plug_by m out told ∷ [] → b.plugs ≡ plug_by n back heard ∷ []
    → out.wire ≡ heard.wire → back.wire ≡ told.wire → AreLinked a b
paired a b n m out heard back told p q r s u v =
    ap (λ (ps : List Plug). plug_to b.seat.number ps) r
    ∙ (ap (λ (k : ℕ). plug_to k (plug_by m out told ∷ [])) q
    ∙ (one_plug m out told
    ∙ (ap (λ (w : Wire). Some (w, told.wire)) u
    ∙ (ap (λ (w : Wire). Some (heard.wire, w)) (sym v)
    ∙ sym (ap (λ (ps : List Plug). crossed (plug_to a.seat.number ps)) s ∙ (ap (λ (k : ℕ). crossed (plug_to k (plug_by n back heard ∷ []))) p ∙ ap crossed (one_plug n back heard)))))))
