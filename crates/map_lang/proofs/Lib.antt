mod Readings
mod Answered
mod Typing
mod MapForms
mod Singles
mod Formats
