-- What is given of a refusal: the one place where a refusal's name is tied to its number in document 01.
use Rattle.std.specs.Prelude.{Result, Ok, Err}
use Rattle.frame.specs.Ground.{plain, placed}
use Rattle.frame.specs.declared.given.Given.{Given}
use Rattle.frame.specs.declared.given.Refusal.{Refusal}
use Rattle.frame.specs.declared.given.Refusal.TheVariants.{BadState, ShortBuffer, NotWhole, TooLong, WrongCheck, UnknownIdentifier, WrongLength, NoSuchJet, NoSuchMessage, BadParameters, NoContent, NoRoom, Missing, WrongCount, NoPosition, NoCharacter, NoSuchType, NoSuchMoment}

-- 01, Numbers, the table; 01, Other calls: 14 and 15. 02, Wish 1: 16 and 17; Wish 3: 18. Wish 4: 10, 12 and 13 "shall carry a place".
abbrev pub given_of : Refusal → Given
given_of BadState = plain 1
given_of ShortBuffer = plain 2
given_of NotWhole = plain 3
given_of TooLong = plain 4
given_of WrongCheck = plain 5
given_of UnknownIdentifier = plain 6
given_of WrongLength = plain 7
given_of NoSuchJet = plain 8
given_of NoSuchMessage = plain 17
given_of BadParameters = plain 9
given_of (NoContent i) = placed 10 i
given_of NoRoom = plain 16
given_of Missing = plain 11
given_of WrongCount = plain 18
given_of (NoPosition i) = placed 12 i
given_of (NoCharacter i) = placed 13 i
given_of NoSuchType = plain 14
given_of NoSuchMoment = plain 15

-- What is given of a call. 01, Numbers: 0, "done".
abbrev pub given_in : {A : Type 0} → Result A Refusal → Given
given_in (Ok a) = plain 0
given_in (Err why) = given_of why

-- A call's answer in the words of the rules: what is given stands in the refusal's place.
abbrev pub numbered : {A : Type 0} → Result A Refusal → Result A Given
numbered (Ok a) = Ok a
numbered (Err why) = Err (given_of why)
