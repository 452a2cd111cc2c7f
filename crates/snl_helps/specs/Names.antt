-- What helps at calls of functions that are not known, and at names that are not declared.
use Rattle.std.specs.Prelude.{ℕ, List, Option, Some, None, codes, bytes_eq, if◌then◌else◌}

-- Of a function of numbers or of time.
abbrev pub number_help : List ℕ → Option (List ℕ)
number_help name =
    if bytes_eq name (codes "fabs") then Some (codes "x < 0 ? -x : x, or a function of the program")
    else (if bytes_eq name (codes "abs") then Some (codes "x < 0 ? -x : x, or a function of the program")
    else (if bytes_eq name (codes "sqrt") then Some (codes "a function of the program, of whole numbers")
    else (if bytes_eq name (codes "pow") then Some (codes "a product, as x * x")
    else (if bytes_eq name (codes "sleep") then Some (codes "a state of its own, and when (delay(SECONDS))")
    else (if bytes_eq name (codes "usleep") then Some (codes "a state of its own, and when (delay(SECONDS))")
    else (if bytes_eq name (codes "epicsThreadSleep") then Some (codes "a state of its own, and when (delay(SECONDS))") else None))))))

-- Of a function of channels, else as above.
abbrev pub channel_help : List ℕ → Option (List ℕ)
channel_help name =
    if bytes_eq name (codes "pvStatus") then Some (codes "a channel of its own, NAME.STAT, with a monitor")
    else (if bytes_eq name (codes "pvSeverity") then Some (codes "a channel of its own, NAME.SEVR, with a monitor: 0 to 3")
    else (if bytes_eq name (codes "pvTimeStamp") then Some (codes "a channel of its own that brings the time, with a monitor")
    else (if bytes_eq name (codes "pvAssign") then Some (codes "the name in the assign, with a macro that the call says")
    else (if bytes_eq name (codes "pvMonitor") then Some (codes "a definition: monitor NAME;")
    else (if bytes_eq name (codes "pvSync") then Some (codes "a definition: sync NAME to FLAG;")
    else (if bytes_eq name (codes "macValueGet") then Some (codes "a macro stands in the names of channels alone: {NAME}") else number_help name))))))

-- Of a function that reads or measures texts, else as above.
abbrev pub reading_help : List ℕ → Option (List ℕ)
reading_help name =
    if bytes_eq name (codes "sscanf") then Some (codes "no texts: a channel that brings the number itself")
    else (if bytes_eq name (codes "atoi") then Some (codes "no texts: a channel that brings the number itself")
    else (if bytes_eq name (codes "atof") then Some (codes "no texts: a channel that brings the number itself")
    else (if bytes_eq name (codes "strlen") then Some (codes "no texts: a number with a legend, as 0 for an empty one")
    else (if bytes_eq name (codes "strcat") then Some (codes "no texts: printf the numbers themselves")
    else (if bytes_eq name (codes "snprintf") then Some (codes "no texts: printf the numbers themselves")
    else (if bytes_eq name (codes "memset") then Some (codes "a while, or an assignment for each element") else channel_help name))))))

-- What helps at a call of a function with this name that is not known, where something is: first of a function of texts, else as above.
abbrev pub call_help_at : List ℕ → Option (List ℕ)
call_help_at name =
    if bytes_eq name (codes "strcpy") then Some (codes "no texts: a number with a legend, as x = 1; /* open */")
    else (if bytes_eq name (codes "strncpy") then Some (codes "no texts: a number with a legend, as x = 1; /* open */")
    else (if bytes_eq name (codes "strcmp") then Some (codes "no texts: compare the numbers that stand for them")
    else (if bytes_eq name (codes "strncmp") then Some (codes "no texts: compare the numbers that stand for them")
    else (if bytes_eq name (codes "sprintf") then Some (codes "no texts: printf the numbers themselves")
    else (if bytes_eq name (codes "seqLog") then Some (codes "printf, which writes a line of its own")
    else (if bytes_eq name (codes "errlogPrintf") then Some (codes "printf, which writes a line of its own") else reading_help name))))))

-- What helps at a name that is not declared, where something is known: of a constant of C or of the sequencer.
abbrev pub name_help_at : List ℕ → Option (List ℕ)
name_help_at name =
    if bytes_eq name (codes "true") then Some (codes "TRUE, or 1")
    else (if bytes_eq name (codes "false") then Some (codes "FALSE, or 0")
    else (if bytes_eq name (codes "NULL") then Some (codes "0")
    else (if bytes_eq name (codes "pvSevrNONE") then Some (codes "0, as a channel NAME.SEVR has it")
    else (if bytes_eq name (codes "pvSevrMINOR") then Some (codes "1, as a channel NAME.SEVR has it")
    else (if bytes_eq name (codes "pvSevrMAJOR") then Some (codes "2, as a channel NAME.SEVR has it")
    else (if bytes_eq name (codes "pvSevrINVALID") then Some (codes "3, as a channel NAME.SEVR has it") else None))))))
