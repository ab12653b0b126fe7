-- What a session shows of its fields, and what holds of them.
use Rattle.wb_parser.specs.Parses.{IsParsed}
use Rattle.wb_session.specs.declared.session.Session.TheInside.{Inside}
use Rattle.wb_session.specs.Sessions.{SessionView, IsShort}
use Rattle.wb_session.specs.Kept.{IsMemory, AreCommon}

-- its language, its text, its answer, the places of its leaves and its store
abbrev pub session_view : Inside → SessionView
session_view s = record {
  language = s.language.now.language;
  text = s.memory.text.items;
  answer = s.answer;
  places = s.memory.places.items;
  store = s.memory.stacks.store;
}

-- the answer is that of the text, and each checkpoint is kept of it
pub record IsSession (s : Inside) : Type 0 where
  pub memory : IsMemory s.language.now s.memory
  pub common : AreCommon s.memory
  pub short : IsShort s.memory.text.items
  pub parsed : IsParsed s.language.now.language s.memory.text.items s.memory.stacks.store s.answer
