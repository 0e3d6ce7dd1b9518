use Rattle.std.proofs.Common.{◌≡◌, List, [], ◌∷◌, ◌++◌, length, map, refl, sym, ap, subst, arith}
use Rattle.std.specs.Prelude.{Contains}
use Rattle.std.proofs.lemmas.List.{length-map}
use Rattle.std.proofs.lemmas.List.Elements.{Contains-append_right}
use Rattle.rt_strips.proofs.Family.{are_strips}
use Rattle.rt_rows.specs.declared.name.Name.{Name}
use Rattle.rt_rows.specs.declared.name.Name.TheVariants.{Zero, Top}
use Rattle.rt_strips.specs.declared.listing.Strip.{Strip}
use Rattle.rt_strips.specs.Placed.{placed}
use Rattle.rt_strips.specs.StripsOf.{AreStrips}
use Rattle.rt_view.specs.Job.{strips_of}
use Rattle.rt_htemplate.specs.Candidates.{names_of_strip, AreOfferedAtSeams}
use Rattle.rt_between.proofs.Growing.{all_offered}
use Rattle.rt_htemplate.proofs.Offers.{hold_all}
use Rattle.rt_htemplate.proofs.candidates.candidates.Goals as goal

pub add_of_seams-requires-clause-strips : goal.add_of_seams-requires-clause-strips
add_of_seams-requires-clause-strips c =
    subst (λ (list : List Strip). AreStrips (map placed list)) (sym c.as_slice-list.ensures) (are_strips _ _ _ c.requires.job.job_of.view.strips.strips_are)

first_there : (names more first : List Name) (name : Name) → first ≡ names ++ more → Contains more name → Contains first name
first_there names more first name e c = subst (λ (l : List Name). Contains l name) (sym e) (Contains-append_right names more name c)

pub returns : goal.returns
returns c =
    let job = c.args.job.now in
    let list = c.as_slice-list.result.now in
    let two = Zero ∷ Top ∷ [] in
    let same = ap length c.as_slice-list.ensures in
    hold_all job c.add_names.new.names c.add_of_strips.new.names c.add_of_seams.new.names c.add_of_kept.new.names c.add_between.new.names
    (first_there c.new-names.result two c.add_names.new.names Zero c.in_ok-add_names.ensures (0, omega arith, refl))
    (first_there c.new-names.result two c.add_names.new.names Top c.in_ok-add_names.ensures (1, omega arith, refl))
    (all_offered names_of_strip (length list) (length (strips_of job)) c.add_names.new.names c.add_of_strips.new.names
    (omega (arith, same, length-map job.view.strips.list placed)) c.in_ok-add_of_strips.ensures)
    (subst (λ (l : List Strip). AreOfferedAtSeams (map placed l) c.add_of_strips.new.names c.add_of_seams.new.names) c.as_slice-list.ensures c.in_ok-add_of_seams.ensures)
    c.in_ok-add_of_kept.ensures c.in_ok-add_between.ensures
