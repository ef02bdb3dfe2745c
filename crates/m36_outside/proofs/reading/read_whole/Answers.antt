-- One more piece was read and appended, or one was the last.
use Rattle.std.proofs.Common.{◌≤◌, length, sym, subst}
use Rattle.m36_outside.specs.ReadAnswer.{file_limit}
use Rattle.m36_outside.proofs.Consumed.{consumes_more, consumes_all, consumes_too_much}
use Rattle.m36_outside.proofs.FilesGiven.{gives_more, gives_all, gives_too_much, gives_some, gives_some_more}
use Rattle.m36_outside.proofs.Signalled.{signals_on, gives_up_on}
use Rattle.m36_outside.proofs.reading.read_whole.Goals as goal

pub loop-text-preserved : goal.loop-text-preserved
loop-text-preserved g c =
    let left = g.R.Read.remaining in
    let start = c.args.from.now in
    let now = c.loop-text.from in
    let next = c.read_chunk.new.from in
    let before = c.loop-text.text in
    let after = c.read_chunk.new.text in
    record {
      told = consumes_more (left start.inner) (left now.inner) (left next.inner) before after c.loop-text.invariant.told c.in-More.ensures.says.0;
      given = gives_more start.given.entries now.given.entries next.given.entries before after c.loop-text.invariant.given c.in-More.ensures.gives;
      limit = c.in-More.ensures.says.1.limit;
      signals = signals_on start.errors.entries now.errors.entries next.errors.entries c.loop-text.invariant.signals c.in-More.ensures.error;
    }

-- The end was read.
pub returns-in-End-clause-told : goal.returns-in-End-clause-told
returns-in-End-clause-told g c =
    let left = g.R.Read.remaining in
    let start = left c.args.from.now.inner in
    let next = left c.read_chunk.new.from.inner in
    let before = c.loop-text.text in
    let after = c.read_chunk.new.text in
    consumes_all start next after
    (consumes_more start (left c.loop-text.from.inner) next before after c.loop-text.invariant.told c.in-End.ensures.says.0)
    c.in-End.ensures.says.1

pub returns-in-End-clause-limit : goal.returns-in-End-clause-limit
returns-in-End-clause-limit g c =
    subst (λ l. length l ≤ file_limit) (sym c.in-End.ensures.says.2) c.loop-text.invariant.limit

pub returns-in-End-clause-gives : goal.returns-in-End-clause-gives
returns-in-End-clause-gives g c =
    gives_all c.args.from.now.given.entries c.loop-text.from.given.entries c.read_chunk.new.from.given.entries c.loop-text.text c.read_chunk.new.text c.loop-text.invariant.given c.in-End.ensures.gives.0 c.in-End.ensures.gives.1

pub returns-in-End-clause-error : goal.returns-in-End-clause-error
returns-in-End-clause-error g c =
    signals_on c.args.from.now.errors.entries c.loop-text.from.errors.entries c.read_chunk.new.from.errors.entries c.loop-text.invariant.signals c.in-End.ensures.error

-- A piece was given and appended, and now there are too many bytes.
pub returns-in-TooLarge-clause-told : goal.returns-in-TooLarge-clause-told
returns-in-TooLarge-clause-told g c =
    let left = g.R.Read.remaining in
    let start = left c.args.from.now.inner in
    let next = left c.read_chunk.new.from.inner in
    let before = c.loop-text.text in
    let after = c.read_chunk.new.text in
    consumes_too_much start next after
    (consumes_more start (left c.loop-text.from.inner) next before after c.loop-text.invariant.told c.in-TooLarge.ensures.says.0)
    c.in-TooLarge.ensures.says.1

pub returns-in-TooLarge-clause-gives : goal.returns-in-TooLarge-clause-gives
returns-in-TooLarge-clause-gives g c =
    gives_too_much c.args.from.now.given.entries c.loop-text.from.given.entries c.read_chunk.new.from.given.entries c.loop-text.text c.read_chunk.new.text c.loop-text.invariant.given c.in-TooLarge.ensures.gives c.in-TooLarge.ensures.says.1

pub returns-in-TooLarge-clause-error : goal.returns-in-TooLarge-clause-error
returns-in-TooLarge-clause-error g c =
    signals_on c.args.from.now.errors.entries c.loop-text.from.errors.entries c.read_chunk.new.from.errors.entries c.loop-text.invariant.signals c.in-TooLarge.ensures.error

-- The last read gave up.
pub returns-in-Failed-clause-gives : goal.returns-in-Failed-clause-gives
returns-in-Failed-clause-gives g c =
    gives_some c.args.from.now.given.entries c.loop-text.from.given.entries c.read_chunk.new.from.given.entries c.loop-text.text c.loop-text.invariant.given c.in-Failed.ensures.gives

pub returns-in-Failed-clause-error : goal.returns-in-Failed-clause-error
returns-in-Failed-clause-error g c =
    gives_up_on c.args.from.now.errors.entries c.loop-text.from.errors.entries c.read_chunk.new.from.errors.entries c.loop-text.invariant.signals c.in-Failed.ensures.error

-- Memory ran out for the last piece.
pub returns-in-NoMemory-clause-gives : goal.returns-in-NoMemory-clause-gives
returns-in-NoMemory-clause-gives g c =
    gives_some_more c.args.from.now.given.entries c.loop-text.from.given.entries c.read_chunk.new.from.given.entries c.loop-text.text c.loop-text.invariant.given c.in-NoMemory.ensures.gives

pub returns-in-NoMemory-clause-error : goal.returns-in-NoMemory-clause-error
returns-in-NoMemory-clause-error g c =
    signals_on c.args.from.now.errors.entries c.loop-text.from.errors.entries c.read_chunk.new.from.errors.entries c.loop-text.invariant.signals c.in-NoMemory.ensures.error
