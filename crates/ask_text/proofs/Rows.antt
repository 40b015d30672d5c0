-- Asks for one way that the definitions themselves compute.
use Rattle.std.proofs.Common.{◌≡◌, List, [], ◌∷◌, codes, Option, Some, None, ℕ, refl}
use Rattle.std.specs.Fmt.{digits}
use Rattle.nsi_base.specs.Digits.{value_from, number_of}
use Rattle.nsi_base.specs.Words.{words_of}
use Rattle.nsi_primitive.specs.declared.ask.Ask.{Ask}
use Rattle.nsi_primitive.specs.declared.ask.What.{What}
use Rattle.nsi_primitive.specs.declared.kind.Directionality.{Directionality}
use Rattle.ask_text.specs.Asks.{verb_of, ask_text}
use Rattle.ask_text.specs.Reading.{version_in, way_in, reserve_in, by_verb, ask_of}

abbrev one_way : Option ℕ → Ask
one_way version =
    record {
      label = Some (codes "c1");
      what = What.Reserve (record { source = codes "A"; dest = codes "B"; capacity = 600; start = 100; end = 200; version = version; directionality = Directionality.Unidirectional });
    }

printed : (ask_text (one_way None) ≡ codes "reserve c1 A B 600 100 200 one") × (ask_text (one_way (Some 3)) ≡ codes "reserve c1 A B 600 100 200 3 one")
unfolding verb_of digits
printed = (refl, refl)

read_again : (ask_of (codes "reserve c1 A B 600 100 200 one") ≡ Some (one_way None)) × (ask_of (codes "reserve c1 A B 600 100 200 3 one") ≡ Some (one_way (Some 3)))
unfolding ask_of words_of by_verb reserve_in version_in way_in value_from number_of verb_of digits
read_again = (refl, refl)

-- twice, before the version, and in the place of a number
no_asks :
    (ask_of (codes "reserve c1 A B 600 100 200 one one") ≡ None)
    × (ask_of (codes "reserve c1 A B 600 100 200 one 3") ≡ None)
    × (ask_of (codes "reserve c1 A B 600 100 one") ≡ None)
unfolding ask_of words_of by_verb reserve_in version_in way_in value_from number_of
no_asks = (refl, refl, refl)
