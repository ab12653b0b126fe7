-- What a call answers by a number.
use Rattle.std.specs.Prelude.{◌≡◌, ℕ}
use Rattle.wb_session_library.specs.Numbers.{number_of}
use Rattle.wb_session_library.specs.declared.refusal.CallRefusal.{CallRefusal}

-- the number is 0, and the call is done; or it is that of a refusal, which has this reason
pub data Answers (number : ℕ) (Done : Type 0) (Refused : CallRefusal → Type 0) : Type 0 where
  done : number ≡ 0 → Done → Answers number Done Refused
  refused : (refusal : CallRefusal) → number ≡ number_of refusal → Refused refusal → Answers number Done Refused

-- the number is 0, and the call is done; or it is that of a refusal, which has this reason, and what was there stays
pub data Changes (number : ℕ) (Done : Type 0) (Refused : CallRefusal → Type 0) (Stays : Type 0) : Type 0 where
  changed : number ≡ 0 → Done → Changes number Done Refused Stays
  stayed : (refusal : CallRefusal) → number ≡ number_of refusal → Refused refusal → Stays → Changes number Done Refused Stays

-- what is written is made of what holds so
pub record Writes {X Y : Type 0} (Holds : X → Type 0) (shown : X → Y) (out : Y) : Type 0 where
  pub made : X
  pub holds : Holds made
  pub is : out ≡ shown made
