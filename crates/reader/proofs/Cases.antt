-- What a statement of another kind adds: nothing.
use Rattle.std.proofs.Common.{◌≡◌, [], refl}
use Rattle.reader.specs.Statements.{rules_in, assumed_in}
use Rattle.reader.specs.Fill.{NameLists, with_name}
use Rattle.reader.specs.Seen.{meant}
use Rattle.reader.specs.declared.statement.Numbers.{Numbers}
use Rattle.reader.specs.declared.statement.Rule.{Rule}
use Rattle.reader.specs.declared.statement.Output.{Output}
use Rattle.reader.specs.declared.statement.Statement.{Statement}
use Rattle.reader.specs.declared.statement.Statement.TheVariants as st

pub no_rule : (s : Statement) → ((r : Rule) → s ≡ st.Rule r → ⊥) → rules_in (meant s) ≡ []
no_rule (st.Rule r) h = absurd (h r refl)
no_rule (st.Output o) h = refl
no_rule (st.Assumption ns) h = refl
no_rule (st.Skipped kind rest) h = refl

pub none_assumed : (s : Statement) → ((ns : Numbers) → s ≡ st.Assumption ns → ⊥) → assumed_in (meant s) ≡ []
none_assumed (st.Rule r) h = refl
none_assumed (st.Output o) h = refl
none_assumed (st.Assumption ns) h = absurd (h ns refl)
none_assumed (st.Skipped kind rest) h = refl

pub no_name : (N : NameLists) (s : Statement) → ((o : Output) → s ≡ st.Output o → ⊥) → with_name N (meant s) ≡ N
no_name N (st.Rule r) h = refl
no_name N (st.Output o) h = absurd (h o refl)
no_name N (st.Assumption ns) h = refl
no_name N (st.Skipped kind rest) h = refl
