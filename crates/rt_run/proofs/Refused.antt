-- What is known of a refusal of the files whose contents are known as other lists.
use Rattle.std.proofs.Common.{◌≡◌, ℕ, List, refl, subst}
use Rattle.rt_tech.specs.declared.table.Tech.{Tech}
use Rattle.rt_tech.specs.declared.table.Which.TheVariants.{Source}
use Rattle.rt_tables.specs.Tables.{IsTechOf}
use Rattle.rt_retarget.specs.declared.answer.Fault.{Fault}
use Rattle.rt_retarget.specs.declared.answer.Fault.TheVariants as refused
use Rattle.rt_retarget.specs.Answers.{IsFaultOf}
use Rattle.rt_retarget.specs.Files.{Given}
use Rattle.rt_retarget.specs.Jobs.{given}
use Rattle.rt_desk.specs.Desk.{Outside}
use Rattle.rt_run.specs.declared.answer.Answer.{Answer}
use Rattle.rt_run.specs.declared.answer.Answer.TheVariants.{Done, Usage, Refused, Infeasible, NotFetched, NotStored, OutOfMemory}
use Rattle.rt_run.specs.Answers.{IsBrokenIn, AreNamesFor, MeansOfRefusal, MeansOfContents}

pub refusal_of_lists : (contents : Given) (source stable ttable sizes : List ℕ) (fault : Fault)
    → source ≡ contents.source → stable ≡ contents.stable → ttable ≡ contents.ttable → sizes ≡ contents.sizes
    → IsFaultOf (given source stable ttable sizes) fault → IsFaultOf contents fault
refusal_of_lists contents source stable ttable sizes fault a b c d is = rw (a, b, c, d) at is

-- a rule is broken of a source's table that is valid
pub broken_in : (contents : Given) (stable : List ℕ) (fault : Fault) → stable ≡ contents.stable → IsFaultOf contents fault → IsBrokenIn stable fault
broken_in contents stable (refused.SourceRule rule p q found needed) same is =
    (is.inputs.tables.source, rw same is.shaped.stripped.laid.parsed.read.files_are.tables.source_read)
broken_in contents stable (refused.SourceShape shape rect) same is = tt
broken_in contents stable (refused.TableToml which) same is = tt
broken_in contents stable (refused.BadTable which key cause) same is = tt
broken_in contents stable (refused.TablesDiffer key) same is = tt
broken_in contents stable refused.SizesToml same is = tt
broken_in contents stable (refused.BadSizes key cause) same is = tt
broken_in contents stable refused.NotBuilt same is = tt
broken_in contents stable (refused.BadStream offset cause) same is = tt
broken_in contents stable (refused.Unsupported offset odd) same is = tt
broken_in contents stable (refused.NoSuchStructure name) same is = tt
broken_in contents stable (refused.Cyclic names) same is = tt
broken_in contents stable (refused.UnmappedLayer layer number) same is = tt
broken_in contents stable (refused.ArrayStep offset) same is = tt
broken_in contents stable (refused.CoordinateRange offset) same is = tt
broken_in contents stable refused.TooDeep same is = tt
broken_in contents stable (refused.TooMany what count) same is = tt
broken_in contents stable refused.OutOfMemory same is = tt

-- what an answer means for a refusal, it means for the contents; no file changed
pub refusal_means : (contents : Given) (out stable : List ℕ) (outside : Outside) (fault : Fault) (answer : Answer) → stable ≡ contents.stable → IsFaultOf contents fault
    → MeansOfRefusal stable fault answer → MeansOfContents contents out outside outside answer
refusal_means contents out stable outside fault (Refused refusal) same is means =
    (rw means.0 is, subst (λ (bytes : List ℕ). AreNamesFor bytes refusal.fault refusal.names) same means.1, refl)
refusal_means contents out stable outside fault OutOfMemory same is means = refl
refusal_means contents out stable outside fault Done same is means = absurd means
refusal_means contents out stable outside fault (Infeasible axis) same is means = absurd means
refusal_means contents out stable outside fault Usage same is means = means
refusal_means contents out stable outside fault NotStored same is means = absurd means
refusal_means contents out stable outside fault (NotFetched file) same is means = means
