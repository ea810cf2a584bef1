mod OneAnswer
mod OneMapAnswer
mod SameWords
