-- From an error of `clap` to a fault of ours.
use Rattle.std.proofs.Common.{◌≡◌, ◌⊎◌, inl, inr}
use Rattle.clap.specs.Words.{IsAmong, Kinds}
use Rattle.clap.specs.declared.error.kind.ErrorKind.{ErrorKind}
use Rattle.clap.specs.declared.error.kind.ErrorKind.TheVariants as kind
use Rattle.snc_args.specs.declared.words.WordsFault.{WordsFault}
use Rattle.snc_args.specs.declared.words.WordsFault.TheVariants as fault
use Rattle.snc_args.specs.Reads.{FailsBy, FaultGives}

-- A fault that an error gives has one of the kinds that the error may have.
pub fails : (kinds : Kinds) (k : ErrorKind) (f : WordsFault) → ((k ≡ kind.OutOfMemory) ⊎ IsAmong k kinds) → FaultGives k f → FailsBy kinds f
fails kinds k fault.Memory h g = tt
fails kinds k (fault.Help text) (inl oom) g = cc
fails kinds k (fault.Help text) (inr h) g = (k, h, g)
fails kinds k (fault.Usage text) (inl oom) g = absurd (g.1 oom)
fails kinds k (fault.Usage text) (inr h) g = (k, h, g)
fails kinds k (fault.BadOption sign character) h g = absurd g
