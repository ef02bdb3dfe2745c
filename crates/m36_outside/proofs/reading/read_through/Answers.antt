-- What was read was appended.
use Rattle.std.proofs.Common.{[], ◌≡◌, ℕ, take, sym, subst, refl, append-nil, rules, arith}
use Rattle.std.specs.Io.KnownBytes.{Consumes}
use Rattle.m36_outside.proofs.Consumed.{chunk_says}
use Rattle.m36_outside.proofs.FilesGiven.{chunk_gives}
use Rattle.m36_outside.proofs.Signalled.{chunk_has_error}
use Rattle.m36_outside.proofs.reading.read_through.Goals as goal

pub returns-in-Some-clause-says : goal.returns-in-Some-clause-says
returns-in-Some-clause-says g c =
    chunk_says c.add_chunk.result (g.R.Read.remaining c.args.from.now.inner) (g.R.Read.remaining c.read.new.self.inner) c.args.text.now c.add_chunk.new.text
    (take c.in-Some.count c.read.new.into) c.add_chunk.ensures c.in-Some.ensures.inner

pub returns-in-Some-clause-gives : goal.returns-in-Some-clause-gives
returns-in-Some-clause-gives g c =
    chunk_gives c.add_chunk.result c.args.from.now.given.entries c.read.new.self.given.entries c.args.text.now c.add_chunk.new.text
    (take c.in-Some.count c.read.new.into) c.add_chunk.ensures c.in-Some.ensures.given

pub returns-in-Some-clause-error : goal.returns-in-Some-clause-error
returns-in-Some-clause-error g c =
    chunk_has_error c.add_chunk.result c.args.text.now c.add_chunk.new.text _ c.args.from.now.errors.entries c.read.new.self.errors.entries c.add_chunk.ensures c.in-Some.ensures.sure

pub returns-in-Some-eq0-clause-says : goal.returns-in-Some-eq0-clause-says
returns-in-Some-eq0-clause-says g c =
    let none : c.in-Some-eq0.field-0 ≡ 0 = first_of (search rules, grind arith) in
    let left = g.R.Read.remaining in (
      record {
        got = [];
        taken = subst (λ (n : ℕ). Consumes (left c.args.from.now.inner) (left c.read.new.self.inner) (take n c.read.new.into)) none c.in-Some-eq0.ensures.inner;
        added = sym (append-nil c.args.text.now);
      },
      c.in-Some-eq0.ensures.end none,
      refl,
    )
