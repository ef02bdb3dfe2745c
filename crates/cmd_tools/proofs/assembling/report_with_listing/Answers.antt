-- The object is packed, and listed.
use Rattle.std.proofs.Common.{[], ◌∷◌, refl, ap, ◌∙◌}
use Rattle.m36_list.specs.Listing.{listing_of}
use Rattle.cmd_tools.proofs.assembling.report_with_listing.Goals as goal

pub returns : goal.returns
returns c =
    let name = c.args.name.now in
    let lines = c.args.lines.now in
    let object = c.args.object.now in
    record {
      assembly = record { source = lines; parts = object };
      is = refl;
      made_is =
          c.in_ok-report.ensures
          ∙ (λ i. record { sets = record { name = name; content = c.in_ok-content.ensures i } ∷ []; text = (c.in_ok-listing.ensures ∙ ap (λ n. listing_of n lines object) c.bytes.ensures.value) i });
    }
