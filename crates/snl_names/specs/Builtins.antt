-- The built-in functions, each by its name.
use Rattle.std.specs.Prelude.{ℕ, List, Option, Some, None, codes, bytes_eq, if◌then◌else◌}
use Rattle.snl_names.specs.declared.builtins.Builtin.{Builtin}
use Rattle.snl_names.specs.declared.builtins.Builtin.TheVariants.{Delay, Printf, PvPut, Ask}
use Rattle.snl_names.specs.declared.builtins.Query.TheVariants.{EfClear, EfSet, EfTest, EfTestAndClear, PvChannelCount, PvConnectCount, PvConnected, PvFlushQ, PvGet, PvGetQ, PvPutComplete}
use Rattle.snl_names.specs.declared.calls.Form.{Form}
use Rattle.snl_names.specs.declared.calls.Form.TheVariants.{ChannelPlace, PutPlace, QueueName, FlagName, Seconds, Nothing, Format}

-- One that asks or tells something of channels or queues. Other functions are not known.
abbrev pub channel_query_of : List ℕ → Option Builtin
channel_query_of name =
    if bytes_eq name (codes "pvChannelCount") then Some (Ask PvChannelCount)
    else (if bytes_eq name (codes "pvConnectCount") then Some (Ask PvConnectCount)
    else (if bytes_eq name (codes "pvConnected") then Some (Ask PvConnected)
    else (if bytes_eq name (codes "pvFlushQ") then Some (Ask PvFlushQ)
    else (if bytes_eq name (codes "pvGet") then Some (Ask PvGet)
    else (if bytes_eq name (codes "pvGetQ") then Some (Ask PvGetQ)
    else (if bytes_eq name (codes "pvPutComplete") then Some (Ask PvPutComplete) else None))))))

-- One that asks or tells something: those of event flags first.
abbrev pub query_of : List ℕ → Option Builtin
query_of name =
    if bytes_eq name (codes "efClear") then Some (Ask EfClear)
    else (if bytes_eq name (codes "efSet") then Some (Ask EfSet)
    else (if bytes_eq name (codes "efTest") then Some (Ask EfTest)
    else (if bytes_eq name (codes "efTestAndClear") then Some (Ask EfTestAndClear) else channel_query_of name)))

-- The built-in function of a name, if there is one.
abbrev pub builtin_of : List ℕ → Option Builtin
builtin_of name =
    if bytes_eq name (codes "delay") then Some Delay
    else (if bytes_eq name (codes "printf") then Some Printf
    else (if bytes_eq name (codes "pvPut") then Some PvPut else query_of name))

-- What the call of a function takes.
abbrev pub form_of : Builtin → Form
form_of Delay = Seconds
form_of Printf = Format
form_of PvPut = PutPlace
form_of (Ask EfClear) = FlagName
form_of (Ask EfSet) = FlagName
form_of (Ask EfTest) = FlagName
form_of (Ask EfTestAndClear) = FlagName
form_of (Ask PvChannelCount) = Nothing
form_of (Ask PvConnectCount) = Nothing
form_of (Ask PvConnected) = ChannelPlace
form_of (Ask PvFlushQ) = QueueName
form_of (Ask PvGet) = ChannelPlace
form_of (Ask PvGetQ) = QueueName
form_of (Ask PvPutComplete) = ChannelPlace
