-- Removing the suffix from the name of a source yields the name of its object.
use Rattle.std.proofs.Common.{◌≡◌, ◌-◌, ◌++◌, length, take, ap, ◌∙◌, arith, length-append}
use Rattle.std.proofs.Math.Seq.{take-length}
use Rattle.std.proofs.lemmas.List.{take-append-le}
use Rattle.m36_text.specs.FileNames.{source_suffix, SourceNameRoundTrip}

pub source_names : SourceNameRoundTrip
source_names object =
    let size : length (object ++ source_suffix) - length source_suffix ≡ length object = omega (arith, length-append object source_suffix) in
    ap (λ n. take n (object ++ source_suffix)) size
    ∙ take-append-le (length object) object source_suffix (omega arith)
    ∙ take-length object
