-- A command with one subcommand more, of a shape that is known.
use Rattle.std.proofs.Common.{◌≡◌, ◌∙◌, Result, Ok, Err, ap, false}
use Rattle.std.specs.Prelude.{IfOk}
use Rattle.std.specs.declared.alloc.AllocError.{AllocError}
use Rattle.clap.specs.Words.{AddsSubcommand, App, app_of, with_subcommand}
use Rattle.clap.specs.declared.builder.command.Command.{Command}
use Rattle.clap.specs.declared.builder.command.Command.TheViews.{out-Command as fields_of}

pub one_more : (old sub : Command) (shape : App) (r : Result Command AllocError)
    → app_of sub ≡ shape
    → (fields_of sub).has_globals ≡ false → IfOk r (AddsSubcommand old sub)
    → IfOk r (λ new. app_of new ≡ with_subcommand (app_of old) shape.top)
one_more old sub shape (Ok new) is local adds =
    adds.shape local ∙ ap (λ (a : App). with_subcommand (app_of old) a.top) is
one_more old sub shape (Err e) is local adds = adds
