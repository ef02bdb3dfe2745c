use Rattle.std.proofs.Common.{ℕ, ◌≡◌, ◌≤◌, List, length, Option, refl, ap, ◌∙◌, arith}
use Rattle.m36_dir.specs.Catalog.{CatalogFields}
use Rattle.m36_link.specs.Fields.{NewSectionFields}
use Rattle.m36_boot.specs.Image.{booted_tables}
use Rattle.m36_boot.proofs.Sizes.{AreFiles}
use Rattle.m36_boot.proofs.FirstSection.{first_section}
use Rattle.m36_boot.proofs.ImageTables.{tables_placed}
use Rattle.m36_boot.proofs.Contents.{given_from_calls, made_from, image_made, frames_in}
use Rattle.m36_boot.proofs.FlatImage.{flat_image}
use Rattle.m36_boot.proofs.Runnable.{runnable}
use Rattle.m36_boot.proofs.image.image_at.Goals as goal

laid_same : (catalog : CatalogFields) (files : List (List ℕ)) (a b : Option NewSectionFields) → a ≡ b → booted_tables catalog files a ≡ booted_tables catalog files b
laid_same catalog files a b e = ap (λ o. booted_tables catalog files o) e

pub new-requires : goal.new-requires
new-requires c =
    let value = c.count.ensures.value in
    let most = c.count.ensures.most in
    let few : length c.args.catalog.now.segments ≤ 512 = omega (arith, value, most) in
    tables_placed c.args.catalog.now c.args.files.now c.args.snap.lay _ (record { count = c.requires.files; short = c.requires.short })
    (first_section c.link_laws.ensures.accepted_from c.link_laws.ensures.made_from c.args.catalog.now c.args.files.now c.args.snap few c.requires.snap)
    few (c.as_slice.ensures.value ∙ c.in_ok-tables.ensures ∙ laid_same c.args.catalog.now c.args.files.now _ _ c.section_of.ensures)

pub returns : goal.returns
returns c =
    let value = c.count.ensures.value in
    let most = c.count.ensures.most in
    let few : length c.args.catalog.now.segments ≤ 512 = omega (arith, value, most) in
    let frames = c.frames-frames.ensures.value in
    let bound = c.frames-frames.ensures.most in
    let eight : c.args.catalog.now.frames ≤ 8192 = omega (arith, frames, bound) in
    let are : AreFiles c.args.catalog.now c.args.files.now = record { count = c.requires.files; short = c.requires.short } in
    let first = first_section c.link_laws.ensures.accepted_from c.link_laws.ensures.made_from c.args.catalog.now c.args.files.now c.args.snap few c.requires.snap in
    let given =
    given_from_calls c.args.catalog.now c.args.files.now c.args.snap _ _ _ (c.as_slice.ensures.value ∙ c.in_ok-tables.ensures ∙ laid_same c.args.catalog.now c.args.files.now _ _ c.section_of.ensures) frames c.in_ok-pager.ensures.given
    in
    let made =
    made_from c.args.catalog.now c.args.files.now c.args.snap _ _ _ _ _ frames given c.in_ok-core.ensures c.put_descriptors.ensures c.lay.ensures.others
    in
    let flat = flat_image c.args.catalog.now c.args.files.now c.args.snap _ _ are few first eight made given in
    let is = image_made c.args.catalog.now c.args.files.now c.args.snap _ _ _ c.args.snap are few made given flat c.regs_of.ensures in
    record {
      image = is;
      snap = refl;
      runnable =
          runnable c.args.catalog.now c.args.files.now c.args.snap _ _ _ c.args.snap are few first c.requires.frames eight made given
          c.in_ok-pager.ensures.empty c.regs_of.ensures;
      reads = c.lay.ensures.reads;
      frames = frames_in c.args.catalog.now c.args.files.now c.args.snap _ _ _ c.args.snap is;
    }
