-- What a line is, by which an agent takes a parcel.
use Rattle.std.proofs.Common.{ℕ, ◌≡◌, ◌<◌, ◌↔◌, ◌∙◌, Bool, true, false, bytes_eq, List, [], ◌∷◌, ◌++◌, length, append-nil, Option, Some, None, Ok, refl, sym, ap, subst, arith}
use Rattle.std.specs.List.{Contains}
use Rattle.std.specs.Prelude.{IfSome}
use Rattle.std.proofs.lemmas.Slice.Eq.{bytes_eq-Decides}
use Rattle.nsi_base.specs.declared.words.Blanks.TheVariants.{Space}
use Rattle.nsi_base.proofs.Joined.{word_from_name}
use Rattle.nsi_primitive.specs.Messages.{addressee, identity}
use Rattle.nsi_primitive.specs.declared.entry.Event.{Event}
use Rattle.nsi_primitive.specs.declared.message.Message.{Message}
use Rattle.nsi_primitive.specs.declared.message.Parcel.{Parcel}
use Rattle.nsi_primitive.specs.Printable.{IsPrintableParcel, IsPrintableHappening}
use Rattle.nsi_primitive.specs.Ranges.{IsName}
use Rattle.json_primitives.specs.Lines.{object_of}
use Rattle.json_primitives.specs.Spelling.{parcel_spelling}
use Rattle.stp_topology.specs.Network.{agent_of, name_of}
use Rattle.stp_topology.specs.Sound.{IsSound}
use Rattle.stp_topology.specs.declared.network.Network.{Network}
use Rattle.trace_text.specs.Lines.{HasLine, input_verb, line_of, what_words}
use Rattle.trace_reader.specs.Laws.{AreTextsReadAgain, HasNames}
use Rattle.trace_reader.specs.Moments.{HappensNow}
use Rattle.trace_reader.specs.Reading.{acked_in, event_in, got_in, taken, what_in}
use Rattle.trace_reader.proofs.Again.{event_again, front_of, joined, line_is_front, same_some}
use Rattle.trace_reader.proofs.Cuts.{verb_is_word, word_cut}
use Rattle.agent_state.specs.Entries.{most_entries}
use Rattle.nsi_agent.specs.Homes.{Routes, home_in}
use Rattle.nsi_world.specs.Worlds.{Homes, IsSent, World}
use Rattle.nsi_world.specs.Runs.{asks_of}
use Rattle.nsi_world.proofs.Names.{home_name}
use Rattle.followed_agent.specs.Kept.{said_by, seen}
use Rattle.followed_agent.specs.Messages.{IsFoundIn}
use Rattle.followed_agent.specs.declared.agent.Followed.{Followed}
use Rattle.trace_verify.specs.Parcels.{HasRoomFor, IsDelivery, IsNamed, IsParcelBehind, IsParcelIn, WasSaid, delivery_of, event_at, input_of, taken_now, takes}
use Rattle.trace_verify.specs.Standing.{HasHappened}
use Rattle.trace_verify.specs.Steps.{IsLineAlone}
use Rattle.trace_verify.specs.Traces.{seconds_in, world_of}
use Rattle.trace_verify.specs.declared.follower.Follower.{Follower}
use Rattle.trace_verify.specs.declared.parcels.Delivery.{Delivery}
use Rattle.trace_verify.proofs.Coming.{IsPlaced, named_back, said_same, sent_by}

---- The event of a delivery

can_be_printed : (second : ℕ) (p : Parcel) → IsPrintableParcel p → IsPrintableHappening (takes second p)
can_be_printed second (Parcel.Message m) h = record { entry = h; answered = (λ e. absurd (cc), λ e. absurd (cc)) }
can_be_printed second (Parcel.Ack i) h = record { entry = tt; answered = (λ e. absurd (cc), λ e. absurd (cc)) }

is_now : (now asks : ℕ) (p : Parcel) → HappensNow now asks (takes now p)
is_now now asks (Parcel.Message m) = record { timely = refl; numbered = tt }
is_now now asks (Parcel.Ack i) = record { timely = refl; numbered = tt }

words_of : (second : ℕ) (p : Parcel) → joined (what_words (takes second p)) ≡ parcel_spelling p
words_of second (Parcel.Message m) = append-nil (parcel_spelling (Parcel.Message m))
words_of second (Parcel.Ack i) = append-nil (parcel_spelling (Parcel.Ack i))

-- it is printed as the line
printed_so : (t : Network) (second : ℕ) (line : List ℕ) (d : Delivery) → IsDelivery t line d → line_of t (event_at second d.agent d.parcel) ≡ line ++ 10 ∷ []
printed_so t second line d is =
    let front : front_of t (event_at second d.agent d.parcel) ≡ line =
    ap (λ x. input_verb (input_of d.parcel) ++ 32 ∷ (name_of t d.agent ++ 32 ∷ x)) (words_of second d.parcel ∙ is.parcel.spelled) ∙ sym is.named.whole in
    line_is_front t (event_at second d.agent d.parcel) ∙ ap (λ x. x ++ 10 ∷ []) front

-- what stands behind the name is read as the parcel
parcel_again : (now asks : ℕ) (text : List ℕ) (p : Parcel) → object_of text ≡ Ok p → what_in (input_verb (input_of p)) now asks text ≡ Some (taken now (input_of p) None)
unfolding what_in got_in acked_in
parcel_again now asks text (Parcel.Message m) h = rw h refl
parcel_again now asks text (Parcel.Ack i) h = rw h refl

words_read : (t : Network) (seconds : ℕ → ℕ) (asks : ℕ) (d : Delivery) (text : List ℕ) → IsName (name_of t d.agent) → agent_of t (name_of t d.agent) ≡ Some d.agent → object_of text ≡ Ok d.parcel
    → event_in t seconds asks (input_verb (input_of d.parcel) ++ 32 ∷ (name_of t d.agent ++ 32 ∷ text)) ≡ Some (event_at (seconds d.agent) d.agent d.parcel)
unfolding event_in
words_read t seconds asks d text named found again =
    rw (
      word_cut (input_verb (input_of d.parcel)) (name_of t d.agent ++ 32 ∷ text) (verb_is_word (takes 0 d.parcel)),
      word_cut (name_of t d.agent) text (word_from_name Space (name_of t d.agent) named),
      found,
      parcel_again (seconds d.agent) asks text d.parcel again,
    ) refl

-- so is the line
read_so : (t : Network) (seconds : ℕ → ℕ) (asks : ℕ) (line : List ℕ) (d : Delivery) → HasNames t → IsDelivery t line d → event_in t seconds asks line ≡ Some (event_at (seconds d.agent) d.agent d.parcel)
read_so t seconds asks line d names is =
    ap (event_in t seconds asks) is.named.whole
    ∙ words_read t seconds asks d is.text (names.named d.agent is.named.within) (names.found d.agent is.named.within) is.parcel.again

pub has_line : (t : Network) (line : List ℕ) (d : Delivery) (second : ℕ) → IsDelivery t line d → HasLine t (event_at second d.agent d.parcel)
has_line t line d second is = record { agent = is.named.within; printable = can_be_printed second d.parcel is.parcel.printable }

-- the line is that of the delivery, and of nothing else
pub delivery_alone : AreTextsReadAgain → (t : Network) (homes : Homes) (es : List Event) (line : List ℕ) (d : Delivery) → HasNames t → IsDelivery t line d
    → IsLineAlone t homes es line (record { agent = d.agent; what = taken_now homes (world_of es) d.agent d.parcel })
delivery_alone texts t homes es line d names is =
    let now = seconds_in homes (world_of es) in
    let asks = length (asks_of es) in
    record {
      line_of = record {
        has_line = has_line t line d (now d.agent) is;
        of_moment = is_now (now d.agent) asks d.parcel;
        printed = printed_so t (now d.agent) line d is;
      };
      alone = λ e ranged its. same_some e _ (event_in t now asks line) (event_again texts t now asks line e names its ranged) (read_so t now asks line d names is);
    }

-- so it is with the event of a parcel that is known
pub event_alone : AreTextsReadAgain → (t : Network) (homes : Homes) (es : List Event) (line : List ℕ) (d : Delivery) (p : Parcel) (second : ℕ) (e : Event) → HasNames t → IsDelivery t line d → d.parcel ≡ p
    → second ≡ seconds_in homes (world_of es) d.agent → e ≡ event_at second d.agent p → IsLineAlone t homes es line e
event_alone texts t homes es line d p second e names is parcel now same =
    subst (IsLineAlone t homes es line) (sym (same ∙ (ap (λ q. event_at second d.agent q) (sym parcel) ∙ ap (λ k. event_at k d.agent d.parcel) now))) (delivery_alone texts t homes es line d names is)

---- How it is found

-- a message that is found among what an agent has said
pub spelled_so : (ms : List Message) (text : List ℕ) (o : Option Message) → IfSome o (IsFoundIn ms text) → IfSome o (λ m. IsParcelIn text (Parcel.Message m))
spelled_so ms text (Some m) h = record { printable = h.printable; spelled = h.spelled; again = h.again }
spelled_so ms text None h = tt

pub sent_so : (t : Network) (routes : Routes) (w : World) (a : ℕ) (f : Followed) (text : List ℕ) (o : Option Message) → IsSound t → a < length t.agents → IsPlaced t w a f → IfSome o (IsFoundIn (said_by (home_in t routes a) (seen f)) text)
    → IfSome o (IsSent (home_in t routes) w)
sent_so t routes w a f text (Some m) sound within placed h = sent_by t routes w a m sound within (subst (λ ms. Contains ms m) (said_same t routes w a f placed) h.there)
sent_so t routes w a f text None sound within placed h = tt

-- the first word, the name and the text, cut one after another
pub named_behind : (t : Network) (verb line first rest name text : List ℕ) (a : ℕ) → line ≡ first ++ 32 ∷ rest → bytes_eq first verb ≡ true → rest ≡ name ++ 32 ∷ text → agent_of t name ≡ Some a → a < length t.agents → IsNamed t verb line a text
named_behind t verb line first rest name text a whole same behind found within = record {
  within = within;
  whole =
      whole
      ∙ (ap (λ v. v ++ 32 ∷ rest) ((bytes_eq-Decides first verb).0 same)
      ∙ ap (λ r. verb ++ 32 ∷ r) (behind ∙ ap (λ n. n ++ 32 ∷ text) (sym (named_back t name a found))));
}

pub found_delivery : (t : Network) (line verb text : List ℕ) (a : ℕ) (o : Option Parcel) (r : Option Delivery) → r ≡ delivery_of a o → IsNamed t verb line a text → IfSome o (IsParcelBehind verb text) → IfSome r (IsDelivery t line)
found_delivery t line verb text a (Some p) r is named parcel =
    subst (λ z. IfSome z (IsDelivery t line)) (sym is)
    (record { text = text; named = record { within = named.within; whole = named.whole ∙ ap (λ v. v ++ 32 ∷ (name_of t a ++ 32 ∷ text)) (sym parcel.verb_is) }; parcel = parcel.parcel })
found_delivery t line verb text a None r is named parcel = subst (λ z. IfSome z (IsDelivery t line)) (sym is) tt

pub said_delivery : (homes : Homes) (w : World) (a : ℕ) (o : Option Parcel) (r : Option Delivery) → r ≡ delivery_of a o → IfSome o (WasSaid homes w) → IfSome r (λ d. WasSaid homes w d.parcel)
said_delivery homes w a (Some p) r is said = subst (λ z. IfSome z (λ (d : Delivery). WasSaid homes w d.parcel)) (sym is) said
said_delivery homes w a None r is said = subst (λ z. IfSome z (λ (d : Delivery). WasSaid homes w d.parcel)) (sym is) tt

---- Room

pub room_for : (t : Network) (routes : Routes) (w : World) (a : ℕ) (f : Followed) (m : Message) (to name : List ℕ) (is : Bool) → IsPlaced t w a f → length f.journal.items < most_entries → to ≡ addressee (identity m) → name ≡ name_of t a
    → is ≡ bytes_eq to name → (is ≡ true) ↔ HasRoomFor (home_in t routes) w a m
room_for t routes w a f m to name is placed room to_is name_is value = (
  λ e. record {
    room = omega (arith, room, ap length placed.journal);
    addressed = sym to_is ∙ ((bytes_eq-Decides to name).0 (sym value ∙ e) ∙ (name_is ∙ sym (home_name t routes a)));
  },
  λ may. value ∙ (bytes_eq-Decides to name).1 (to_is ∙ (may.addressed ∙ (home_name t routes a ∙ sym name_is))),
)

-- it is got now
pub got_now : (homes : Homes) (w : World) (a now : ℕ) (m : Message) (y : Follower) (is : Bool) → now ≡ seconds_in homes w a → HasHappened homes w a (takes now (Parcel.Message m)) y is
    → HasHappened homes w a (taken_now homes w a (Parcel.Message m)) y is
got_now homes w a now m y is same happened = subst (λ k. HasHappened homes w a (takes k (Parcel.Message m)) y is) same happened

-- where there is none, nothing is got
pub no_room : (homes : Homes) (w : World) (a : ℕ) (m : Message) (y : Follower) (is : Bool) → (is ≡ true) ↔ HasRoomFor homes w a m → is ≡ false → HasHappened homes w a (taken_now homes w a (Parcel.Message m)) y false
no_room homes w a m y is room none = record {
  tells = (λ e. absurd (cc), λ may. let has = room.1 (record { room = may.0; addressed = may.1.comes.1 }) in absurd (cc));
  shows = λ e. absurd (cc);
}
