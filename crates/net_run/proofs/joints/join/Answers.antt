use Rattle.std.proofs.Common.{rules, ℕ, refl, ◌≡◌, ◌∙◌, sym, ap, subst, ◌++◌, ◌∷◌, [], List, append_assoc}
use Rattle.std.specs.List.{All}
use Rattle.std.proofs.lemmas.List.Elements.{All-push}
use Rattle.net_run.specs.declared.joints.Joint.{Joint}
use Rattle.nsi_play.specs.Openings.{plans_of}
use Rattle.net_run.specs.Joints.{ArePaired, IsShutJoint, IsPlannedJoint, ends_of}
use Rattle.net_run.proofs.Joining.{joint, paired_append, two_paired}
use Rattle.net_run.proofs.Ends.{ends_append, ends_two}
use Rattle.net_run.proofs.joints.join.Goals as goal

pub returns-clause-paired : goal.returns-clause-paired
returns-clause-paired c =
    let x = joint c.args.a c.args.b c.in_ok-there.there c.in_ok-back.known_back in
    let y = joint c.args.b c.args.a c.in_ok-back.back c.in_ok-there.known_there in
    let old = c.args.joints.now.items in
    let first : c.push.new.self.items ≡ old ++ x ∷ [] = search rules in
    let second : c.push-2.new.self.items ≡ c.push.new.self.items ++ y ∷ [] = search rules in
    let both : c.push-2.new.self.items ≡ old ++ (x ∷ (y ∷ [])) = second ∙ (ap (λ (js : List Joint). js ++ y ∷ []) first ∙ append_assoc old (x ∷ []) (y ∷ [])) in
    subst (λ (js : List Joint). ArePaired js) (sym both)
    (paired_append c.args.joints.now.items (x ∷ (y ∷ [])) c.requires.paired
    (two_paired c.args.a c.args.b c.in_ok-there.there c.in_ok-back.known_back c.in_ok-back.back c.in_ok-there.known_there c.requires.apart c.in_ok-there.ensures.pair c.in_ok-back.ensures.pair))

pub returns-clause-shut : goal.returns-clause-shut
returns-clause-shut c =
    let x = joint c.args.a c.args.b c.in_ok-there.there c.in_ok-back.known_back in
    let y = joint c.args.b c.args.a c.in_ok-back.back c.in_ok-there.known_there in
    let old = c.args.joints.now.items in
    let first : c.push.new.self.items ≡ old ++ x ∷ [] = search rules in
    let both : c.push-2.new.self.items ≡ c.push.new.self.items ++ y ∷ [] = search rules in
    let there = c.in_ok-there.ensures.empty in
    let back = c.in_ok-back.ensures.empty in
    let one : IsShutJoint x = record { out = there.0; inc = back.1 } in
    let two : IsShutJoint y = record { out = back.0; inc = there.1 } in
    subst (λ (js : List Joint). All IsShutJoint js) (sym both)
    (All-push IsShutJoint c.push.new.self.items y (subst (λ (js : List Joint). All IsShutJoint js) (sym first) (All-push IsShutJoint old x c.requires.shut one)) two)

pub returns-clause-planned : goal.returns-clause-planned
returns-clause-planned c =
    let P : Joint → Type 0 = IsPlannedJoint (plans_of c.args.lines.now) in
    let x = joint c.args.a c.args.b c.in_ok-there.there c.in_ok-back.known_back in
    let y = joint c.args.b c.args.a c.in_ok-back.back c.in_ok-there.known_there in
    let old = c.args.joints.now.items in
    let first : c.push.new.self.items ≡ old ++ x ∷ [] = search rules in
    let both : c.push-2.new.self.items ≡ c.push.new.self.items ++ y ∷ [] = search rules in
    let one : P x = c.in_ok-there.ensures.plan ∙ c.in_ok-plan_there.ensures in
    let two : P y = c.in_ok-back.ensures.plan ∙ c.in_ok-plan_back.ensures in
    subst (λ (js : List Joint). All P js) (sym both) (All-push P c.push.new.self.items y (subst (λ (js : List Joint). All P js) (sym first) (All-push P old x c.requires.planned one)) two)

pub returns-clause-ends : goal.returns-clause-ends
returns-clause-ends c =
    let x = joint c.args.a c.args.b c.in_ok-there.there c.in_ok-back.known_back in
    let y = joint c.args.b c.args.a c.in_ok-back.back c.in_ok-there.known_there in
    let old = c.args.joints.now.items in
    let first : c.push.new.self.items ≡ old ++ x ∷ [] = search rules in
    let second : c.push-2.new.self.items ≡ c.push.new.self.items ++ y ∷ [] = search rules in
    let both : c.push-2.new.self.items ≡ old ++ (x ∷ (y ∷ [])) = second ∙ (ap (λ (js : List Joint). js ++ y ∷ []) first ∙ append_assoc old (x ∷ []) (y ∷ [])) in
    λ n. ap (ends_of n) both ∙ (ends_append n old (x ∷ (y ∷ [])) ∙ ap (λ (ns : List ℕ). ends_of n old ++ ns) (ends_two c.args.a c.args.b n x y refl refl refl refl))
