-- When two identities are one.
use Rattle.std.proofs.Common.{◌≡◌, ◌==◌, ◌&&◌, ◌∙◌, true, bytes_eq, get_or, refl, sym, ap, arith}
use Rattle.std.proofs.lemmas.Bool.{and_parts}
use Rattle.std.proofs.lemmas.Bool.Decides.{Decides-eqb}
use Rattle.std.proofs.lemmas.Slice.Eq.{bytes_eq-Decides}
use Rattle.nsi_primitive.specs.Kinds.{kind_number, kinds}
use Rattle.nsi_primitive.specs.declared.kind.Kind.{Kind}
use Rattle.nsi_primitive.specs.declared.message.Identity.{Identity}
use Rattle.message_retry.specs.Retry.{is_same_identity}

number_kind : (k : Kind) → get_or kinds (kind_number k) Kind.Reserve ≡ k
unfolding kind_number
number_kind k = grind arith

pub same_identity : (i j : Identity) → is_same_identity i j ≡ true → i ≡ j
same_identity i j e =
    let p = and_parts (bytes_eq i.requester j.requester) (bytes_eq i.provider j.provider && ((i.correlation == j.correlation) && (kind_number i.kind == kind_number j.kind))) e in
    let q = and_parts (bytes_eq i.provider j.provider) ((i.correlation == j.correlation) && (kind_number i.kind == kind_number j.kind)) p.1 in
    let r = and_parts (i.correlation == j.correlation) (kind_number i.kind == kind_number j.kind) q.1 in
    let kind : i.kind ≡ j.kind = sym (number_kind i.kind) ∙ (ap (λ n. get_or kinds n Kind.Reserve) ((Decides-eqb (kind_number i.kind) (kind_number j.kind)).0 r.1) ∙ number_kind j.kind) in
    ap (λ x. record { requester = x; provider = i.provider; correlation = i.correlation; kind = i.kind }) ((bytes_eq-Decides i.requester j.requester).0 p.0)
    ∙ (ap (λ x. record { requester = j.requester; provider = x; correlation = i.correlation; kind = i.kind }) ((bytes_eq-Decides i.provider j.provider).0 q.0)
    ∙ (ap (λ x. record { requester = j.requester; provider = j.provider; correlation = x; kind = i.kind }) ((Decides-eqb i.correlation j.correlation).0 r.0)
    ∙ ap (λ x. record { requester = j.requester; provider = j.provider; correlation = j.correlation; kind = x }) kind))

pub identity_itself : (i : Identity) → is_same_identity i i ≡ true
identity_itself i = rw ((bytes_eq-Decides i.requester i.requester).1 refl, (bytes_eq-Decides i.provider i.provider).1 refl, (Decides-eqb i.correlation i.correlation).1 refl, (Decides-eqb (kind_number i.kind) (kind_number i.kind)).1 refl) refl
