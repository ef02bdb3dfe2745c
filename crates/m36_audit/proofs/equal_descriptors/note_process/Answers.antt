use Rattle.std.proofs.Common.{◌≡◌, ◌*◌, ◌+◌, ◌^◌, subst, arith}
use Rattle.std.specs.Prelude.{nat_eq}
use Rattle.std.specs.HashMap.{get}
use Rattle.m36_audit.specs.Classes.{AreDescriptorsRecorded}
use Rattle.m36_audit.proofs.Noting.{dbr_at, noted_step, noted_rest}
use Rattle.m36_audit.proofs.equal_descriptors.note_process.Goals as goal

pub note-requires : goal.note-requires
note-requires c =
    let len = c.loop-seg.invariant.len in
    let few = c.segment_count-seg-end.ensures.most in
    omega arith

pub loop-seg-preserved : goal.loop-seg-preserved
loop-seg-preserved c =
    let few = c.segment_count-seg-end.ensures.most in
    noted_step c.args.core.now c.args.dbrs.now c.requires.few c.args.k c.loop-seg.seg c.index-dbrs-k.result (dbr_at c.args.dbrs.now c.args.k c.index-dbrs-k.result c.requires.process c.index-dbrs-k.is) c.requires.process (omega arith) (get nat_eq c.loop-seg.places) (get nat_eq c.note.new.places) c.loop-seg.firsts.items c.note.new.firsts.items c.key.result (c.args.k * 32768 + c.loop-seg.seg) (omega arith) c.key.ensures.value c.key.ensures.small c.in_ok-note.ensures c.loop-seg.invariant

pub loop-seg-init : goal.loop-seg-init
loop-seg-init c =
    let e : 2 ^ 15 * c.args.k ≡ 2 ^ 15 * c.args.k + 0 = omega arith in
    subst (λ n. AreDescriptorsRecorded c.args.core.now c.args.dbrs.now n (get nat_eq c.args.places.now) c.args.firsts.now.items) e c.requires.before

pub returns : goal.returns
returns c =
    let few = c.segment_count-seg-end.ensures.most in
    noted_rest c.args.core.now c.args.dbrs.now c.requires.few c.args.k c.index-dbrs-k.result (dbr_at c.args.dbrs.now c.args.k c.index-dbrs-k.result c.requires.process c.index-dbrs-k.is) c.segment_count-seg-end.result c.loop-seg.seg c.segment_count-seg-end.ensures.is c.loop-seg-test.false (omega arith) (get nat_eq c.loop-seg.places) c.loop-seg.firsts.items c.loop-seg.invariant
