-- Before anything is said, views that were asked nothing and a child that has taken nothing are a pair.
use Rattle.std.proofs.Common.{ℕ, List, [], None, inl, inr, refl}
use Rattle.nsi_primitive.specs.declared.message.Body.{Body}
use Rattle.connection_record.specs.Moves.{is_live}
use Rattle.record_index.proofs.Members.{nothing_in}
use Rattle.child_connection.specs.Views.{ChildConnection}
use Rattle.child_connection.specs.Holding.{IsHeeded, IsAlike}
use Rattle.circuit_link.specs.Links.{Link}
use Rattle.circuit_link.specs.Children.{about, record_of}
use Rattle.circuit_link.specs.Mates.{IsMate}
use Rattle.circuit_pairs.specs.Pairs.{IsPair}
use Rattle.circuit_pairs.specs.Minding.{no_child}
use Rattle.circuit_pairs.specs.Laws.{no_past}
use Rattle.circuit_pairs.proofs.Backing.{none_backed}
use Rattle.circuit_pairs.proofs.Minding.{alike_pair}

unheeded : (child : List ℕ) (c : ℕ) → IsHeeded (no_child child) c → ⊥
unheeded child c (inl e) = absurd (cc)
unheeded child c (inr e) = absurd (cc)

start_mate : (parent child : List ℕ) → IsMate parent child (no_child child) None no_past
unfolding record_of about
start_mate parent child =
    record {
      linked = Link.calm (record { quiet = record { none = refl; rests = refl; same = refl }; late = λ c b p a i t. absurd (cc) });
      seated =
          record {
            seated = λ n e. absurd (cc);
            others = λ n p o c h k. absurd (unheeded child c h);
            alone = λ c h. absurd (unheeded child c h);
            known = λ id e. absurd (cc);
            named = λ c b id h i e. absurd (nothing_in b i);
          };
      opened = λ n e. absurd (cc);
    }

pub start_pair : (I : Type 0) (parent child : List ℕ) (xs : I → ChildConnection) → ((i : I) → IsAlike (no_child child) (xs i)) → IsPair I parent child xs [] no_past
unfolding about is_live
start_pair I parent child xs a =
    alike_pair I parent child [] no_past (λ i. no_child child) xs a
    (record {
      place = λ i. None;
      mates = λ i. start_mate parent child;
      apart = λ i j n e f. absurd (cc);
      children = λ i. refl;
      heeds = λ i c h. absurd (unheeded child c h);
      alone = λ i j c h g. absurd (unheeded child c h);
      unseen = λ i c k r u. absurd (cc);
      untaken = λ m i r p u. absurd (nothing_in m i);
      commits = λ i c r. absurd (cc);
      backed = λ i. none_backed parent child (no_child child) [] no_past refl;
      asked_for =
          record {
            checks = λ n o e. absurd (cc);
            confirms = λ c f i. absurd (nothing_in (Body.ReserveConfirmed f) i);
            ended = λ n o e. absurd (cc);
          };
      refuses = λ i c o e r m j. absurd (cc);
    })
