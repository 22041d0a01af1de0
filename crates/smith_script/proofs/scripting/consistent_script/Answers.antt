use Rattle.std.proofs.Common.{◌≡◌, ◌∙◌, subst, sym}
use Rattle.std.proofs.lemmas.Result.{IfErr-weaker}
use Rattle.smith_read.specs.PartNodes.{shown_tree}
use Rattle.smith_read.specs.declared.error.ReadError.TheVariants as error
use Rattle.smith_tree.proofs.Clear.{spells_law}
use Rattle.smith_tree.specs.WellFormed.{WellFormed}
use Rattle.smith_script.proofs.Given.{given_formed, given_shallow, script_given}
use Rattle.smith_script.specs.IsScript.{IsScript}
use Rattle.smith_script.proofs.scripting.consistent_script.Goals as goal

pub returns-in-Err-Malformed-clause-refuses : goal.returns-in-Err-Malformed-clause-refuses
returns-in-Err-Malformed-clause-refuses c other t spells b script =
    let shallow = given_shallow c.args.config.now t b (script_given c.args.config.now t b script) in
    let memory = c.in-Err-Malformed.ensures.reads.answers t shallow spells in
    let clash : error.Malformed c.in-Err-Malformed.offset c.in-Err-Malformed.reason ≡ error.OutOfMemory =
    sym c.in-Err-Malformed.field-0-is ∙ memory in absurd (cc)

pub returns-in-WellFormed-clause-refuses : goal.returns-in-WellFormed-clause-refuses
returns-in-WellFormed-clause-refuses c =
    IfErr-weaker c.written.result _ _
    (λ e h other t spells b script. h other b
    (subst (λ u. IsScript c.args.config.now u b) (spells_law t (shown_tree c.in-Ok.tree) c.args.bytes.now spells c.in-Ok.ensures.reads.spelled) script))
    c.written.ensures.refuses

pub returns-clause-refuses : goal.returns-clause-refuses
returns-clause-refuses c other t spells b script =
    let formed = given_formed c.args.config.now t b (script_given c.args.config.now t b script) in
    let same = spells_law t (shown_tree c.in-Ok.tree) c.args.bytes.now spells c.in-Ok.ensures.reads.spelled in
    let judged = rw c.in-IllFormed.is at (c.in_ok-judged.ensures {u = tt}) in
    judged.0 (subst WellFormed same formed)
