mod Refusing
mod Verdicts
